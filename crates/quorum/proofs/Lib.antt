mod Takers
