-- What each step makes of a station's head, or why it is refused: the lowest number that applies.
use Rattle.std.specs.Prelude.{ℕ, zero, suc, ◌+◌, ◌-◌, ◌%◌, max, Bool, true, cond, not, ◌&&◌, ◌||◌, List, length, Some, None, Ok, Err, Option, Result, ◌==◌, nat_le, nat_lt, slice_index_or}
use Rattle.council.specs.Log.{closes_to, is_close}
use Rattle.entry.specs.declared.entry.Entry.{Entry}
use Rattle.entry.specs.declared.entry.Entry.TheVariants.{Close}
use Rattle.quorum.specs.Sets.{inserted, is_in, is_most}
use Rattle.quorum.specs.Tally.{most_took, nobody, noted}
use Rattle.quorum.specs.declared.tally.Tally.{Tally}
use Rattle.steps.specs.Same.{same_entry}
use Rattle.steps.specs.declared.head.Head.{Head}
use Rattle.steps.specs.declared.refusal.Refusal.{Refusal}
use Rattle.steps.specs.declared.refusal.Refusal.TheVariants.{BelowPromise, LogFull, NoJoin, NoMember, NotClosed, NotLeading, NotOwn, NotPromised, NotTaken, OtherTerm}

-- a head with other numbers, in the same council
abbrev pub within : Head → (promised ballot len sure asking leading heard had best : ℕ) → Tally → Head
within h promised ballot len sure asking leading heard had best tally =
    record {
      me = h.me;
      term = h.term;
      members = h.members;
      before = h.before;
      promised = promised;
      ballot = ballot;
      len = len;
      sure = sure;
      asking = asking;
      leading = leading;
      heard = heard;
      had = had;
      best = best;
      tally = tally;
    }

-- in another council, with nothing done in it yet
abbrev pub entered_head : ℕ → ℕ → ℕ → ℕ → Head
entered_head me term members before =
    record {
      me = me;
      term = term;
      members = members;
      before = before;
      promised = 0;
      ballot = 0;
      len = 0;
      sure = 0;
      asking = 0;
      leading = 0;
      heard = 0;
      had = 0;
      best = 0;
      tally = nobody 0;
    }

-- after a stop
abbrev pub stopped_head : Head → Head
stopped_head h = within h h.promised h.ballot h.len h.sure 0 0 0 0 0 (nobody 0)

abbrev pub member : Head → Bool
member h = is_in h.members h.me

-- asking for a ballot
abbrev pub asked_head : ℕ → Head → Head
asked_head b h = within h b h.ballot h.len h.sure b 0 0 0 0 h.tally

abbrev pub ask_head : ℕ → Head → Result Head Refusal
ask_head b h =
    cond (not (member h)) (Err NoMember)
    (cond (not (b % 16 == h.me) || (nat_le b h.promised || nat_lt 4294967295 b)) (Err NotOwn)
    (Ok (asked_head b h)))

-- a log of so many entries of a ballot is better than the best so far
abbrev pub is_better : ℕ → ℕ → Head → Bool
is_better had n h = h.heard == 0 || (nat_lt h.had had || (h.had == had && nat_lt h.best n))

-- a promise that counts, or not: who promised, and the best log among them
abbrev pub heard_head : Bool → ℕ → ℕ → ℕ → Head → Head
heard_head counts from had n h =
    within h h.promised h.ballot h.len h.sure h.asking h.leading (cond counts (inserted h.heard from) h.heard)
    (cond (counts && is_better had n h) had h.had) (cond (counts && is_better had n h) n h.best) h.tally

-- promising a ballot: asking for and leading others ends
abbrev pub gave_head : ℕ → Head → Head
gave_head b h =
    within h b h.ballot h.len h.sure (cond (h.asking == b) h.asking 0) (cond (h.leading == b) h.leading 0) h.heard h.had h.best h.tally

-- its own promise counts at once, if it asks for this ballot
abbrev pub counts_itself : ℕ → Head → Bool
counts_itself b h = h.asking == b && not (is_in h.heard h.me)

abbrev pub give_head : ℕ → ℕ → Head → Result Head Refusal
give_head t b h =
    cond (not (t == h.term)) (Err OtherTerm)
    (cond (not (member h)) (Err NoMember)
    (cond (nat_lt b h.promised || nat_le b h.ballot) (Err BelowPromise)
    (Ok (heard_head (counts_itself b h) h.me h.ballot h.len (gave_head b h)))))

-- a promise that comes: it counts if a member sent it, once
abbrev pub counts_from : ℕ → Head → Bool
counts_from from h = is_in h.members from && not (is_in h.heard from)

abbrev pub hear_head : ℕ → ℕ → ℕ → ℕ → ℕ → Head → Result Head Refusal
hear_head t b from had n h =
    cond (not (t == h.term)) (Err OtherTerm)
    (cond (b == 0 || (not (b == h.asking) || not (b == h.promised))) (Err NotPromised)
    (Ok (heard_head (counts_from from h) from had n h)))

-- entries laid from a place on keep what is sure: they reach that far, and are the same where they overlap it
unfoldable pub agree : ℕ → ℕ → List Entry → List Entry → Bool
agree zero p log es = true
agree (suc n) p log es = agree n p log es && same_entry (slice_index_or log (p + n) (Close 0)) (slice_index_or es n (Close 0))

abbrev pub keeps_sure : ℕ → List Entry → List Entry → Head → Bool
keeps_sure p es log h = nat_le h.sure (p + length es) && agree (h.sure - p) p log es

-- leading with the best log
abbrev pub led_head : Head → Head
led_head h = within h h.asking h.asking h.best h.sure 0 h.asking 0 0 0 (noted h.asking h.me h.best h.tally)

abbrev pub lead_head : List Entry → List Entry → Head → Result Head Refusal
lead_head best log h =
    cond (not (member h)) (Err NoMember)
    (cond (h.asking == 0 || (not (h.promised == h.asking) || not (is_most h.members h.heard))) (Err NotPromised)
    (cond (not (keeps_sure 0 best log h)) (Err NotPromised)
    (Ok (led_head h))))

-- the last of the n entries of a log; whether it is a close
abbrev pub last_of : ℕ → List Entry → Entry
last_of n log = slice_index_or log (n - 1) (Close 0)

abbrev pub ends_closed : ℕ → List Entry → Bool
ends_closed n log = not (n == 0) && is_close (last_of n log)

-- an entry has a place behind n others: the last of 4,096 is for a close; and a close names a council
abbrev pub names_council : Option ℕ → Bool
names_council None = true
names_council (Some ms) = nat_lt 0 ms && nat_lt ms 65536

abbrev pub has_place : ℕ → Entry → Bool
has_place n e = (nat_lt n 4095 || (n == 4095 && is_close e)) && names_council (closes_to e)

abbrev pub grew_head : Head → Head
grew_head h =
    within h h.promised h.ballot (h.len + 1) h.sure h.asking h.leading h.heard h.had h.best (noted h.leading h.me (h.len + 1) h.tally)

abbrev pub propose_head : Entry → List Entry → Head → Result Head Refusal
propose_head e log h =
    cond (not (member h)) (Err NoMember)
    (cond (h.leading == 0 || not (h.promised == h.leading)) (Err NotLeading)
    (cond (ends_closed h.len log || not (has_place h.len e)) (Err LogFull)
    (Ok (grew_head h))))

-- taking a part: of the same ballot it leaves no gap and shortens nothing, of a higher one it begins within what is sure
abbrev pub joins : ℕ → ℕ → ℕ → Head → Bool
joins b p n h = cond (b == h.ballot) (nat_le p h.len && nat_le h.len (p + n)) (nat_lt h.ballot b && nat_le p h.sure)

abbrev pub took_head : ℕ → ℕ → Head → Head
took_head b n h =
    within h b b n h.sure (cond (h.asking == b) h.asking 0) (cond (h.leading == b) h.leading 0) h.heard h.had h.best
    (noted b h.me n h.tally)

abbrev pub take_head : ℕ → ℕ → ℕ → List Entry → List Entry → Head → Result Head Refusal
take_head t b p es log h =
    cond (not (t == h.term)) (Err OtherTerm)
    (cond (not (member h)) (Err NoMember)
    (cond (nat_lt b h.promised || not (joins b p (length es) h)) (Err NoJoin)
    (cond (not (keeps_sure p es log h)) (Err NoJoin)
    (Ok (took_head b (p + length es) h)))))

-- a took that comes
abbrev pub counted_head : ℕ → ℕ → ℕ → Head → Head
counted_head b from n h =
    within h h.promised h.ballot h.len h.sure h.asking h.leading h.heard h.had h.best (noted b from n h.tally)

abbrev pub count_head : ℕ → ℕ → ℕ → ℕ → Head → Result Head Refusal
count_head t b from n h =
    cond (not (t == h.term)) (Err OtherTerm)
    (cond (nat_lt b h.tally.ballot) (Err NotTaken)
    (Ok (counted_head b from n h)))

-- the first k entries are decided, unless more are
abbrev pub sure_head : ℕ → Head → Head
sure_head k h = within h h.promised h.ballot h.len (max h.sure k) h.asking h.leading h.heard h.had h.best h.tally

abbrev pub decide_head : ℕ → Head → Result Head Refusal
decide_head k h =
    cond (not (h.tally.ballot == h.ballot) || (not (most_took h.members k h.tally) || nat_lt h.len k)) (Err NotTaken)
    (Ok (sure_head k h))

-- the next council: the one that the last entry closes to
abbrev pub council_of : Option ℕ → ℕ
council_of None = 0
council_of (Some ms) = ms

abbrev pub closes_at : ℕ → List Entry → ℕ
closes_at n log = council_of (closes_to (last_of n log))

abbrev pub close_head : List Entry → Head → Result Head Refusal
close_head log h =
    cond (not (h.sure == h.len) || (not (ends_closed h.len log) || (nat_le 65535 h.term || nat_lt 4294967295 (h.before + h.len)))) (Err NotClosed)
    (Ok (entered_head h.me (h.term + 1) (closes_at h.len log) (h.before + h.len)))

-- a begin that comes
abbrev pub begin_head : ℕ → ℕ → ℕ → Head → Result Head Refusal
begin_head t members before h = cond (nat_le t h.term) (Err OtherTerm) (Ok (entered_head h.me t members before))
