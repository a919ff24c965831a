-- Entries that are the same.
use Rattle.std.specs.Prelude.{Bool, false, ◌&&◌, ◌==◌}
use Rattle.entry.specs.declared.entry.Entry.{Entry}
use Rattle.entry.specs.declared.entry.Entry.TheVariants.{Call, Close}
use Rattle.store.specs.declared.ask.Ask.{Ask}
use Rattle.store.specs.declared.ask.Ask.TheVariants.{Look, Put, Take}
use Rattle.store.specs.declared.request.Request.{Request}

abbrev pub same_ask : Ask → Ask → Bool
same_ask (Put k v) (Put l w) = k == l && v == w
same_ask (Put k v) (Take l w) = false
same_ask (Put k v) (Look l) = false
same_ask (Take k v) (Put l w) = false
same_ask (Take k v) (Take l w) = k == l && v == w
same_ask (Take k v) (Look l) = false
same_ask (Look k) (Put l w) = false
same_ask (Look k) (Take l w) = false
same_ask (Look k) (Look l) = k == l

abbrev pub same_request : Request → Request → Bool
same_request q r = q.client == r.client && (q.number == r.number && same_ask q.ask r.ask)

abbrev pub same_entry : Entry → Entry → Bool
same_entry (Call q) (Call r) = same_request q r
same_entry (Call q) (Close s) = false
same_entry (Close s) (Call q) = false
same_entry (Close s) (Close t) = s == t
