-- Beginnings of logs.
use Rattle.std.proofs.Common.{◌≡◌, ℕ, ◌<◌, ◌≤◌, ◌⊎◌, List, [], ◌++◌, length, take, drop, sym, ap, ◌∙◌, inl, inr, arith}
use Rattle.council.specs.Log.{Line, Prefix}
use Rattle.entry.specs.declared.entry.Entry.{Entry}
use Rattle.std.proofs.lemmas.List.{append_assoc, append-nil, length-append, nil_from_length, take_all, take-append-drop, take-append-le}
use Rattle.std.proofs.lemmas.Bool.{cases_lt}

pub pre_refl : (a : List Entry) → Prefix a a
pre_refl a = record { rest = []; is = sym (append-nil a) }

pub pre_of : {a b : List Entry} → a ≡ b → Prefix a b
pre_of {a} e = record { rest = []; is = sym e ∙ sym (append-nil a) }

pub pre_trans : {a b c : List Entry} → Prefix a b → Prefix b c → Prefix a c
pre_trans {a} p q = record { rest = p.rest ++ q.rest; is = q.is ∙ ap (λ (l : List Entry). l ++ q.rest) p.is ∙ append_assoc a p.rest q.rest }

pub pre_length : {a b : List Entry} → Prefix a b → length a ≤ length b
pre_length {a} p = let e = ap length p.is ∙ length-append a p.rest in omega arith

-- a beginning that is as long is the whole
pub pre_whole : {a b : List Entry} → Prefix a b → length b ≤ length a → a ≡ b
pre_whole {a} {b} p h =
    let e = ap length p.is ∙ length-append a p.rest in
    sym (p.is ∙ ap (λ (l : List Entry). a ++ l) (nil_from_length p.rest (omega arith)) ∙ append-nil a)

pub pre_take : (k : ℕ) (l : List Entry) → Prefix (take k l) l
pre_take k l = record { rest = drop k l; is = sym (take-append-drop k l) }

-- what a beginning begins with
pub take_pre : {a b : List Entry} (k : ℕ) → Prefix a b → k ≤ length a → take k a ≡ take k b
take_pre {a} k p h = sym (ap (take k) p.is ∙ take-append-le k a p.rest h)

pub pre_of_take : {a b : List Entry} → Prefix a b → a ≡ take (length a) b
pre_of_take {a} p = sym (take_all (length a) a (omega arith)) ∙ take_pre (length a) p (omega arith)

-- two beginnings of one list
pub pre_both : {a b c : List Entry} → Prefix a c → Prefix b c → length a ≤ length b → Prefix a b
pre_both {a} {b} {c} p q h =
    record { rest = drop (length a) b; is = sym (take-append-drop (length a) b) ∙ ap (λ (l : List Entry). l ++ drop (length a) b) (take_pre (length a) q h ∙ sym (pre_of_take p)) }

pub line_of : {a b c : List Entry} → Prefix a c → Prefix b c → Line a b
line_of {a} {b} p q = go (cases_lt (length b) (length a))
  where
    go : (length b < length a) ⊎ (length a ≤ length b) → Line a b
    go (inl h) = inr (pre_both q p (omega arith))
    go (inr h) = inl (pre_both p q (omega arith))

-- the same front before both
pub pre_under : (o : List Entry) {a b : List Entry} → Prefix a b → Prefix (o ++ a) (o ++ b)
pre_under o {a} p = record { rest = p.rest; is = ap (λ (l : List Entry). o ++ l) p.is ∙ sym (append_assoc o a p.rest) }

pub line_under : (o : List Entry) {a b : List Entry} → Line a b → Line (o ++ a) (o ++ b)
line_under o (inl p) = inl (pre_under o p)
line_under o (inr p) = inr (pre_under o p)

pub line_take : {a b : List Entry} (j k : ℕ) → Line a b → Line (take j a) (take k b)
line_take {a} {b} j k (inl p) = line_of (pre_trans (pre_take j a) p) (pre_take k b)
line_take {a} {b} j k (inr p) = line_of (pre_take j a) (pre_trans (pre_take k b) p)
