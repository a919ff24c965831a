-- What clients see of the one line: their requests done in turn and once, and the words that they got.
use Rattle.std.proofs.Common.{◌≡◌, ℕ, zero, suc, ◌<◌, ◌≤◌, ◌⊎◌, List, [], ◌∷◌, ◌++◌, sym, refl, ap, ◌∙◌, inl, inr, arith}
use Rattle.council.proofs.Prefixes.{pre_of, pre_trans}
use Rattle.council.proofs.Safe.{run_on}
use Rattle.council.specs.Log.{Line, Prefix, made, requests_in}
use Rattle.council.specs.Promises.{EachOnce, Grows, LineOf, Main, Placed, SameWord}
use Rattle.council.specs.Rules.{Net, Run, known}
use Rattle.entry.specs.declared.entry.Entry.{Entry}
use Rattle.entry.specs.declared.entry.Entry.TheVariants.{Call, Close}
use Rattle.std.proofs.lemmas.List.{append_assoc}
use Rattle.std.proofs.lemmas.Bool.{cases_eq}
use Rattle.store.specs.Store.{Store, bare, last, outcome, played, word}
use Rattle.store.specs.declared.request.Request.{Request}
use Rattle.store_laws.proofs.Lists.{in_turn, keeps_word, played_append, zeros}

pub requests_append : (a b : List Entry) → requests_in (a ++ b) ≡ requests_in a ++ requests_in b
unfolding requests_in
requests_append [] b = refl
requests_append (Call r ∷ a) b = ap (λ (l : List Request). r ∷ l) (requests_append a b)
requests_append (Close ms ∷ a) b = requests_append a b

-- what more entries make of a store that entries made
pub made_append : (a b : List Entry) → made (a ++ b) ≡ played (made a) (requests_in b)
made_append a b = ap (played bare) (requests_append a b) ∙ played_append bare (requests_in a) (requests_in b)

-- the word stays while nothing more of the client is done
word_stays : {a b : List Entry} (c : ℕ) → Prefix a b → last (made a) c ≡ last (made b) c → word (made a) c ≡ word (made b) c
word_stays {a} c p e =
    let is = ap made p.is ∙ made_append a p.rest in
    sym (ap (λ (s : Store). word s c) is ∙ (keeps_word (made a) (requests_in p.rest) c).1 (sym (e ∙ ap (λ (s : Store). last s c) is)))

word_same : {a b : List Entry} (c : ℕ) → Line a b → last (made a) c ≡ last (made b) c → word (made a) c ≡ word (made b) c
word_same c (inl p) e = word_stays c p e
word_same c (inr p) e = sym (word_stays c p (sym e))

-- a request that stands among the requests of a log stands in the log
pub record Split (es : List Entry) (before : List Request) (r : Request) : Type 0 where
  pub front : List Entry
  pub back : List Entry
  pub is : es ≡ front ++ (Call r ∷ back)
  pub requests : requests_in front ≡ before

split_at : (es : List Entry) (before : List Request) (r : Request) (after : List Request) → requests_in es ≡ before ++ (r ∷ after) → Split es before r
unfolding requests_in
split_at [] [] r after e = cc
split_at [] (b ∷ before) r after e = cc
split_at (Call q ∷ es) [] r after e = let i : q ≡ r = cc in record { front = []; back = es; is = ap (λ (x : Request). Call x ∷ es) i; requests = refl }
split_at (Call q ∷ es) (b ∷ before) r after e =
    let i : q ≡ b = cc in
    let rest : requests_in es ≡ before ++ (r ∷ after) = cc in
    let s = split_at es before r after rest in
    record { front = Call q ∷ s.front; back = s.back; is = ap (λ (l : List Entry). Call q ∷ l) s.is; requests = cc (i, s.requests) }
split_at (Close ms ∷ es) before r after e =
    let s = split_at es before r after e in
    record { front = Close ms ∷ s.front; back = s.back; is = ap (λ (l : List Entry). Close ms ∷ l) s.is; requests = s.requests }

-- the word for a client's last request is the one that this got at its place in any line that goes on from there
placed : (a line : List Entry) (c k : ℕ) → Prefix a line → 1 ≤ k → last (made a) c ≡ k → Placed line c k (word (made a) c)
placed a line c k p h e =
    let none : last bare c ≡ 0 = zeros 256 c in
    let g = (keeps_word bare (requests_in a) c).0 (omega arith) in
    let s = split_at a g.before g.request g.after g.split in
    record {
      before = s.front;
      request = g.request;
      after = s.back ++ p.rest;
      is = p.is ∙ ap (λ (l : List Entry). l ++ p.rest) s.is ∙ append_assoc s.front (Call g.request ∷ s.back) p.rest;
      client = g.client;
      number = g.number ∙ e;
      got = ap (λ (rs : List Request). outcome g.request (played bare rs)) s.requests ∙ g.got;
    }

-- of finitely many logs that lie one in the other, the longest
pub record Top (n : ℕ) (f : ℕ → List Entry) : Type 0 where
  pub one : ℕ
  pub within : one < n
  pub all : (i : ℕ) → i < n → Prefix (f i) (f one)

top : (n : ℕ) (f : ℕ → List Entry) → ((i j : ℕ) → Line (f i) (f j)) → Top (suc n) f
top zero f line = record { one = 0; within = omega arith; all = λ i h. let z : i ≡ 0 = omega arith in pre_of (ap f z) }
top (suc n) f line = go (top n f line)
  where
    pick : (t : Top (suc n) f) → Line (f t.one) (f (suc n)) → Top (suc (suc n)) f
    pick t (inl p) =
        record {
          one = suc n;
          within = omega arith;
          all = λ i h. at_last i (cases_eq i (suc n)) h;
        }
      where
        at_last : (i : ℕ) → (i ≡ suc n) ⊎ ((i ≡ suc n) → ⊥) → i < suc (suc n) → Prefix (f i) (f (suc n))
        at_last i (inl e) h = pre_of (ap f e)
        at_last i (inr e) h = pre_trans (t.all i (omega arith)) p
    pick t (inr p) =
        record {
          one = t.one;
          within = let w = t.within in omega arith;
          all = λ i h. at_last i (cases_eq i (suc n)) h;
        }
      where
        at_last : (i : ℕ) → (i ≡ suc n) ⊎ ((i ≡ suc n) → ⊥) → i < suc (suc n) → Prefix (f i) (f t.one)
        at_last i (inl e) h = pre_trans (pre_of (ap f e)) p
        at_last i (inr e) h = t.all i (omega arith)

    go : Top (suc n) f → Top (suc (suc n)) f
    go t = pick t (line t.one (suc n))

pub same_word_from : Main → SameWord
same_word_from main ms sound n m r run i j c e = word_same c (main ms sound n m r run i j) e

line_at : (n : Net) (t : Top 16 (λ i. known (n.station i))) → LineOf n (known (n.station t.one))
line_at n t =
    record {
      begins = λ i h. t.all i h;
      in_turn = λ c. (in_turn (requests_in (known (n.station t.one))) c).1;
      words = λ i c k h pos e. placed (known (n.station i)) (known (n.station t.one)) c k (t.all i h) pos e;
    }

pub each_once_from : Main → Grows → EachOnce
each_once_from main grows ms sound n m r run =
    let f = λ (i : ℕ). known (n.station i) in
    let g = λ (i : ℕ). known (m.station i) in
    let s = top 15 f (λ i j. main ms sound n n r Run.none i j) in
    let t = top 15 g (λ i j. main ms sound m m (run_on r run) Run.none i j) in
    (f s.one, g t.one, line_at n s, line_at m t, pre_trans (grows ms sound n m r run s.one) (t.all s.one s.within))
