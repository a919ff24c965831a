-- The one line on which all stations stand, and what they answer from it.
use Rattle.std.proofs.Common.{◌≡◌, ℕ, ◌+◌, ◌≤◌, Bool, true, false, cond, not, ◌&&◌, eqb, List, [], ◌++◌, length, take, drop, is_ok, Ok, Err, sym, refl, ap, ◌∙◌, subst, arith}
use Rattle.council.proofs.Books.{made_append}
use Rattle.council.proofs.Prefixes.{pre_length}
use Rattle.council.proofs.Theorems.{each_once, grows, same_word}
use Rattle.council.specs.Log.{Prefix, made, requests_in}
use Rattle.council.specs.Promises.{Placed}
use Rattle.council.specs.Quorum.{Members}
use Rattle.council.specs.Rules.{Msg, Run, Station, known}
use Rattle.entry.specs.declared.entry.Entry.{Entry}
use Rattle.std.proofs.lemmas.List.{append_assoc, drop_at, length-append, length-take-le, take_at}
use Rattle.std.proofs.lemmas.Bool.{and_parts, eqb-false, eqb-true, false≢true, not-true}
use Rattle.steps.specs.Steps.{View, answers}
use Rattle.steps.specs.declared.refusal.Refusal.TheVariants.{NotLast}
use Rattle.steps_laws.proofs.Runs.{Fine, Sits, goes, opened, runs}
use Rattle.steps_laws.proofs.Stands.{Stands, station_of}
use Rattle.steps_laws.specs.Laws.{AnswersAtPlace, At, LineGrows, Mirrors, OneLine, OneWord, Refines, Shows}
use Rattle.steps_laws.specs.World.{World}
use Rattle.store.specs.Store.{Store, last, played, word}

-- the live store is what all that the station knows makes
live_known : {air : List Msg} {v : View} {o : List Entry} → Stands air v o → v.live ≡ made (known (station_of v o))
live_known {v = v} {o = o} S =
    S.whole.live ∙ ap (λ (s : Store). played s (requests_in (take v.head.sure v.log))) S.base ∙ sym (made_append o (take v.head.sure v.log))

known_length : {air : List Msg} {v : View} {o : List Entry} → Stands air v o → length (known (station_of v o)) ≡ v.head.before + v.head.sure
known_length {v = v} {o = o} S =
    let fits : v.head.sure ≤ length v.log = omega (arith, S.whole.fits, S.whole.len) in
    omega (arith, length-append o (take v.head.sure v.log), length-take-le v.head.sure v.log fits, S.before)

shows : {air : List Msg} {i : ℕ} {v : View} {s : Station} → Sits air i v s → Shows i v s
shows {i = i} {v = v} X =
    subst (Shows i v) (sym X.is)
    (record {
      me = X.me;
      term = refl;
      members = refl;
      promised = refl;
      ballot = refl;
      log = refl;
      sure = refl;
      asking = refl;
      leading = refl;
      before = X.stands.before;
      base = X.stands.base;
      live = live_known X.stands;
    })

mirrors : {ms : Members} {w : World} (F : Fine ms w) → Mirrors w F.net
mirrors F = record { each = λ i. shows (F.each i); air = F.air }

pub refines : Refines
refines ms sound xs =
    let F = (runs sound xs (opened ms)).0 in
    (F.net, F.reach, mirrors F, λ i x. let g = goes F i sound x in (g.0.net, g.1, mirrors g.0))

-- where a station stands on a line that goes on from what it knows
at_line : {air : List Msg} {v : View} {o line : List Entry} → Stands air v o → Prefix (known (station_of v o)) line → At line v
at_line {v = v} {o = o} {line = line} S P =
    record {
      store = S.base ∙ ap made (sym (ap (take v.head.before) on ∙ take_at o (sures ++ P.rest) v.head.before (sym S.before)));
      next = sym (ap (take v.head.sure) (ap (drop v.head.before) on ∙ drop_at o (sures ++ P.rest) v.head.before (sym S.before)) ∙ take_at sures P.rest v.head.sure long);
      live = live_known S ∙ ap made (sym (ap (take (v.head.before + v.head.sure)) P.is ∙ take_at (known (station_of v o)) P.rest (v.head.before + v.head.sure) (known_length S)));
      within = omega (arith, pre_length P, known_length S);
    }
  where
    sures : List Entry
    sures = take v.head.sure v.log

    on : line ≡ o ++ (sures ++ P.rest)
    on = P.is ∙ append_assoc o sures P.rest

    long : length sures ≡ v.head.sure
    long = length-take-le v.head.sure v.log (omega (arith, S.whole.fits, S.whole.len))

sits_at : {air : List Msg} {i : ℕ} {v : View} {s : Station} {line : List Entry} → Sits air i v s → Prefix (known s) line → At line v
sits_at {line = line} X P = at_line X.stands (subst (λ (s : Station). Prefix (known s) line) X.is P)

sits_length : {air : List Msg} {i : ℕ} {v : View} {s : Station} → Sits air i v s → length (known s) ≡ v.head.before + v.head.sure
sits_length X = ap (λ (s : Station). length (known s)) X.is ∙ known_length X.stands

pub line_grows : LineGrows
line_grows ms sound xs ys =
    let F = (runs sound xs (opened ms)).0 in
    let r = runs sound ys F in
    let G = r.0 in
    let E = each_once ms sound F.net G.net F.reach r.1 in (
      E.0,
      E.1,
      E.4,
      λ i h.
          record {
            here = sits_at (F.each i) (E.2.begins i h);
            later = sits_at (G.each i) (E.3.begins i h);
            grows = omega (arith, pre_length (grows ms sound F.net G.net F.reach r.1 i), sits_length (F.each i), sits_length (G.each i));
          },
    )

pub one_line : OneLine
one_line ms sound xs = let g = line_grows ms sound xs [] in (g.0, λ i h. (g.3 i h).here)

-- what an answer tells
answered : (c n w : ℕ) (s : Store) → answers c n s ≡ Ok w → (1 ≤ n) × (last s c ≡ n) × (word s c ≡ w)
answered c n w s = go (not (eqb n 0) && eqb (last s c) n) refl
  where
    go : (b : Bool) → (not (eqb n 0) && eqb (last s c) n) ≡ b → cond b (Ok (word s c)) (Err NotLast) ≡ Ok w → (1 ≤ n) × (last s c ≡ n) × (word s c ≡ w)
    go false e y = absurd (false≢true (ap is_ok y))
    go true e y =
        let p = and_parts (not (eqb n 0)) (eqb (last s c) n) e in
        let some = eqb-false n 0 (not-true (eqb n 0) p.0) in
        let same : word s c ≡ w = cc in
        (omega arith, eqb-true (last s c) n p.1, same)

-- and of a station: what it knows makes that word
answered_by : {air : List Msg} {i : ℕ} {v : View} {s : Station} (c n w : ℕ) → Sits air i v s → answers c n v.live ≡ Ok w →
    (1 ≤ n) × (last (made (known s)) c ≡ n) × (word (made (known s)) c ≡ w)
answered_by {s = s} c n w X y = answered c n w (made (known s)) (subst (λ (t : Store). answers c n t ≡ Ok w) (shows X).live y)

pub answers_at_place : AnswersAtPlace
answers_at_place ms sound xs =
    let F = (runs sound xs (opened ms)).0 in
    let E = each_once ms sound F.net F.net F.reach Run.none in (
      E.0,
      λ i h. sits_at (F.each i) (E.2.begins i h),
      λ i c n w h y. let a = answered_by c n w (F.each i) y in subst (Placed E.0 c n) a.2 (E.2.words i c n h a.0 a.1),
    )

pub one_word : OneWord
one_word ms sound xs ys i j c n w u y z =
    let F = (runs sound xs (opened ms)).0 in
    let r = runs sound ys F in
    let a = answered_by c n w (F.each i) y in
    let b = answered_by c n u (r.0.each j) z in
    sym a.2 ∙ same_word ms sound F.net r.0.net F.reach r.1 i j c (a.1 ∙ sym b.1) ∙ b.2
