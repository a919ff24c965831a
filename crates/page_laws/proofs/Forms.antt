-- Pages in bytes, in range or not.
use Rattle.std.proofs.Common.{◌≡◌, ℕ, ◌<◌, ◌≤◌, Bool, true, false, cond, ltb, List, ◌++◌, length, Some, None, sym, refl, ◌∙◌, arith}
use Rattle.wire.proofs.Exacts.{four_exact, one_exact, two_exact}
use Rattle.wire.proofs.Runs.{both_exact, counted_exact, made_exact}
use Rattle.wire.specs.Bytes.{Read, ◌then◌, four, two}
use Rattle.wire.specs.Exact.{Exact}
use Rattle.wire.specs.Several.{several}
use Rattle.page.specs.Page.{RawPage, raw_page_bytes}
use Rattle.page.specs.Rows.{client_bytes, client_of, rows_bytes, rows_of, shelf_bytes, shelf_of}
use Rattle.page.specs.declared.rows.Client.{Client}
use Rattle.page.specs.declared.rows.Shelf.{Shelf}
use Rattle.page_laws.specs.Laws.{ClientFits, PageForms, RawPageFits, ShelfFits}
use Rattle.std.specs.List.{AllByRecursion}

-- readers that read the same
same_exact : {A : Type 0} {r s : List ℕ → Read A} {w : A → List ℕ} {F : A → Type 0} → ((bs : List ℕ) → s bs ≡ r bs) → Exact r w F → Exact s w F
same_exact {w = w} same x = record { back = λ a rest h. same (w a ++ rest) ∙ x.back a rest h; only = λ bs a rest h e. x.only bs a rest h (sym (same bs) ∙ e) }

then_then : {A B C : Type 0} (o : Read A) (k : A → List ℕ → Read B) (l : B → List ℕ → Read C) → (o then λ a bs. k a bs then l) ≡ ((o then k) then l)
then_then None k l = refl
then_then (Some p) k l = refl

then_same : {A B : Type 0} (o : Read A) (k l : A → List ℕ → Read B) → ((a : A) (bs : List ℕ) → k a bs ≡ l a bs) → (o then k) ≡ (o then l)
then_same None k l h = refl
then_same (Some p) k l h = h p.0 p.1

-- three things one behind the other
module _ {A B C : Type 0} {r : List ℕ → Read A} {w : A → List ℕ} {F : A → Type 0} {s : List ℕ → Read B} {v : B → List ℕ} {G : B → Type 0} {t : List ℕ → Read C} {u : C → List ℕ} {H : C → Type 0} (x : Exact r w F) (y : Exact s v G) (z : Exact t u H) where
  module _ {D : Type 0} (make : A × (B × C) → D) where
    last_same : (a : A) (b : B) (o : Read C) → (o then λ c bs. Some (make (a, (b, c)), bs)) ≡ (((o then λ c bs. Some ((b, c), bs)) then λ p bs. Some ((a, p), bs)) then λ q bs. Some (make q, bs))
    last_same a b None = refl
    last_same a b (Some p) = refl

    next_same : (a : A) (o : Read B) →
        (o then λ b bs. t bs then λ c bs. Some (make (a, (b, c)), bs)) ≡ (((o then λ b bs. t bs then λ c bs. Some ((b, c), bs)) then λ p bs. Some ((a, p), bs)) then λ q bs. Some (make q, bs))
    next_same a None = refl
    next_same a (Some p) = last_same a p.0 (t p.1)

    three_same : (bs : List ℕ) →
        (r bs then λ a bs. s bs then λ b bs. t bs then λ c bs. Some (make (a, (b, c)), bs)) ≡ ((r bs then λ a bs. (s bs then λ b bs. t bs then λ c bs. Some ((b, c), bs)) then λ p bs. Some ((a, p), bs)) then λ q bs. Some (make q, bs))
    three_same bs = then_same (r bs) _ _ (λ a bs. next_same a (s bs)) ∙ then_then (r bs) _ _

  pub three_exact : {D : Type 0} (make : A × (B × C) → D) (bytes : D → List ℕ) (Fits : D → Type 0) → ((q : A × (B × C)) → bytes (make q) ≡ w q.0 ++ (v q.1.0 ++ u q.1.1)) →
      ((q : A × (B × C)) → F q.0 × (G q.1.0 × H q.1.1) → Fits (make q)) → ((d : D) → Fits d → (q : A × (B × C)) × (F q.0 × (G q.1.0 × H q.1.1)) × (make q ≡ d)) →
      Exact (λ bs. r bs then λ a bs. s bs then λ b bs. t bs then λ c bs. Some (make (a, (b, c)), bs)) bytes Fits
  three_exact make bytes Fits is fits from = same_exact (three_same make) (made_exact make bytes Fits (both_exact x (both_exact y z)) is fits from)

shelf_exact : Exact shelf_of shelf_bytes ShelfFits
shelf_exact =
    same_exact (λ bs. then_same (two bs) _ _ (λ key bs. then_then (four bs) _ _) ∙ then_then (two bs) _ _)
    (made_exact {B = Shelf} (λ q. record { key = q.0; number = q.1 }) shelf_bytes ShelfFits (both_exact two_exact four_exact) (λ q. refl) (λ q h. record { key = h.0; number = h.1 })
    (λ row h. ((row.key, row.number), (h.key, h.number), refl)))

client_exact : Exact client_of client_bytes ClientFits
client_exact =
    three_exact one_exact four_exact four_exact {D = Client} (λ q. record { client = q.0; last = q.1.0; word = q.1.1 }) client_bytes ClientFits (λ q. refl) (λ q h. record { client = h.0; last = h.1.0; word = h.1.1 })
    (λ row h. ((row.client, (row.last, row.word)), (h.client, (h.last, h.word)), refl))

-- rows behind their count
cond_then : {A B : Type 0} (b : Bool) (o : Read A) (k : A → List ℕ → Read B) → cond b None (o then k) ≡ (cond b None o then k)
cond_then true o k = refl
cond_then false o k = refl

rows_exact : {A : Type 0} {reads : List ℕ → Read A} {bytes : A → List ℕ} {Fits : A → Type 0} (limit : ℕ) → limit < 65536 → Exact reads bytes Fits → Exact (rows_of reads limit) (rows_bytes bytes) (λ rows. (length rows ≤ limit) × AllByRecursion Fits rows)
rows_exact {reads = reads} limit low x =
    same_exact (λ bs. sym (then_then (two bs) (λ n bs. cond (ltb limit n) None (Some (n, bs))) (several reads)) ∙ then_same (two bs) _ _ (λ n bs. sym (cond_then (ltb limit n) (Some (n, bs)) (several reads)))) (counted_exact x limit low)

pub page_forms : PageForms
page_forms =
    three_exact four_exact (rows_exact 1024 (omega arith) shelf_exact) (rows_exact 256 (omega arith) client_exact) {D = RawPage} (λ q. record { before = q.0; shelves = q.1.0; clients = q.1.1 }) raw_page_bytes RawPageFits (λ q. refl)
    (λ q h. let few = h.1.0.0 in let fewer = h.1.1.0 in record { before = h.0; few_shelves = omega arith; shelves = h.1.0.1; few_clients = omega arith; clients = h.1.1.1 })
    (λ p h. ((p.before, (p.shelves, p.clients)), (h.before, ((omega arith, h.shelves), (omega arith, h.clients))), refl))
