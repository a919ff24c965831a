-- What holds with so much in the air holds when more was sent.
use Rattle.std.proofs.Common.{ℕ, List, ◌++◌, inl, inr}
use Rattle.council.proofs.State.{Backed, Held, Own}
use Rattle.council.specs.Promises.{Past, Taken}
use Rattle.council.specs.Quorum.{Members}
use Rattle.council.specs.Rules.{HasTaken, Heard, Msg, Station}
use Rattle.entry.specs.declared.entry.Entry.{Entry}
use mathlib.Core.List.Memᴰ

pub past_more : {ms : Members} {air : List Msg} {t : ℕ} {o : List Entry} {cs : Members} (new : List Msg) → Past ms air t o cs → Past ms (new ++ air) t o cs
past_more new Past.first = Past.first
past_more new (Past.after m) = Past.after (Memᴰ.append_right new m)

pub heard_more : {air : List Msg} {t b j had count : ℕ} (new : List Msg) → Heard air t b j had count → Heard (new ++ air) t b j had count
heard_more new h = record { was = h.was; log = h.log; given = Memᴰ.append_right new h.given; upto = h.upto }

pub has_taken_more : {air : List Msg} {t b j k : ℕ} (new : List Msg) → HasTaken air t b j k → HasTaken (new ++ air) t b j k
has_taken_more new h = record { count = h.count; many = h.many; said = Memᴰ.append_right new h.said }

pub taken_more : {ms : Members} {air : List Msg} {t b k : ℕ} (new : List Msg) → Taken ms air t b k → Taken ms (new ++ air) t b k
taken_more new h =
    record { old = h.old; cs = h.cs; past = past_more new h.past; qs = h.qs; most = h.most; each = λ j m q. has_taken_more new (h.each j m q) }

pub backed_more : {ms : Members} {air : List Msg} {t b : ℕ} {l : List Entry} (new : List Msg) → Backed ms air t b l → Backed ms (new ++ air) t b l
backed_more new h =
    record {
      old = h.old;
      cs = h.cs;
      past = past_more new h.past;
      qs = h.qs;
      from = h.from;
      had = h.had;
      top = h.top;
      most = h.most;
      given = Memᴰ.append_right new h.given;
      each = λ j m q. heard_more new (h.each j m q);
      pre = h.pre;
    }

pub held_more : {air : List Msg} {t b : ℕ} {l : List Entry} (new : List Msg) → Held air t b l → Held (new ++ air) t b l
held_more new (inl h) = inl h
held_more new (inr m) = inr (Memᴰ.append_right new m)

pub own_more : {ms : Members} {i : ℕ} {air : List Msg} {s : Station} (new : List Msg) → Own ms i air s → Own ms i (new ++ air) s
own_more new w = record { low = w.low; asks = w.asks; leads = w.leads; holds = held_more new w.holds; past = past_more new w.past }
