mod Walks
mod Listings
