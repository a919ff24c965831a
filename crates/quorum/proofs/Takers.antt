-- Those that took so many, gathered from the last station down.
use Rattle.std.proofs.Common.{◌≡◌, ℕ, suc, ◌+◌, ◌-◌, ◌*◌, ◌^◌, ◌<◌, ◌≤◌, Bool, true, false, cond, leb, List, [], ◌∷◌, ◌++◌, length, refl, sym, ap, ◌∙◌, pow-suc, arith}
use Rattle.std.proofs.lemmas.List.{append_assoc, append-nil, length-append, nil_from_length}
use Rattle.std.proofs.Math.Pow.{pow_mono}
use Rattle.std.specs.Int.{from_bool}
use Rattle.quorum.specs.Tally.{takers}

-- a set of those behind the stations that are left, in as many bits
pub record Gathers (k : ℕ) (took rest : List ℕ) (set : ℕ) : Type 0 where
  done : List ℕ
  whole : took ≡ rest ++ done
  those : set ≡ takers k done
  fits : set < 2 ^ (16 - length rest)

pub gathers_none : (k : ℕ) (took rest : List ℕ) → length took ≡ 16 → rest ≡ took → Gathers k took rest 0
unfolding takers
gathers_none k took rest l e =
    let n : 16 - length rest ≡ 0 = omega (arith, ap length e) in
    let p = ap (λ (m : ℕ). 2 ^ m) n in
    record { done = []; whole = sym e ∙ sym (append-nil rest); those = refl; fits = omega arith }

bit_of : (b : Bool) → (from_bool b ≡ cond b 1 0) × (from_bool b ≤ 1)
bit_of true = (refl, omega arith)
bit_of false = (refl, omega arith)

-- one station more, and room for it
module _ (k t set : ℕ) (took rest after : List ℕ) (full : length took ≡ 16) (e : rest ≡ after ++ (t ∷ [])) (g : Gathers k took rest set) where
  pub gathers_room : set < 32768
  gathers_room =
      let long = ap length e ∙ length-append after (t ∷ []) in
      let p : 2 ^ (16 - length rest) ≤ 2 ^ 15 = pow_mono {i = 16 - length rest} {j = 15} (omega arith) in
      omega (arith, g.fits)

  pub gathers_more : (bit : ℕ) → bit ≡ from_bool (leb k t) → Gathers k took after (bit + 2 * set)
  unfolding takers
  gathers_more bit b =
      let one = bit_of (leb k t) in
      let long = ap length e ∙ length-append after (t ∷ []) in
      let all = ap length g.whole ∙ length-append rest g.done in
      let n : 16 - length after ≡ suc (16 - length rest) = omega arith in
      let p = ap (λ (m : ℕ). 2 ^ m) n ∙ pow-suc 2 (16 - length rest) in
      record {
        done = t ∷ g.done;
        whole = g.whole ∙ ap (λ (r : List ℕ). r ++ g.done) e ∙ append_assoc after (t ∷ []) g.done;
        those = ap (λ (s : ℕ). bit + 2 * s) g.those ∙ ap (λ (c : ℕ). c + 2 * takers k g.done) (b ∙ one.0);
        fits = omega (arith, one.1, g.fits);
      }

pub gathers_all : (k set : ℕ) (took rest : List ℕ) → length rest ≡ 0 → Gathers k took rest set → set ≡ takers k took
gathers_all k set took rest none g = g.those ∙ ap (takers k) (sym (g.whole ∙ ap (λ (r : List ℕ). r ++ g.done) (nil_from_length rest none)))
