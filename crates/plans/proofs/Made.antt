-- The plan that transfers make, from what each place has sent and got.
use Rattle.std.proofs.Common.{◌≡◌, ℕ, zero, suc, ◌+◌, ◌*◌, ◌<◌, ◌≤◌, Bool, true, false, cond, ◌&&◌, eqb, ltb, List, [], ◌∷◌, ◌++◌, length, refl, inl, inr, arith}
use Rattle.std.specs.List.{AllByRecursion}
use Rattle.std.proofs.lemmas.List.{length-append}
use Rattle.std.proofs.ByRecursion.{All-append, All-weaker}
use Rattle.std.proofs.Math.Bool.{and-true, and-false}
use Rattle.std.proofs.lemmas.Bool.{cases_lt, cases_eq, eq-eqb, ne_eqb, lt-ltb, le-ltb}
use Rattle.streams.specs.Heat.{sum_below, sum_from}
use Rattle.streams.proofs.Sums.{sum_ext, sum_add, sum_zero}
use Rattle.targets.specs.Plans.{bought}
use Rattle.plans.specs.declared.transfers.Transfer.{Transfer}
use Rattle.plans.specs.declared.transfers.Writer.{Writer}
use Rattle.plans.specs.Transfers.{outside, flat, moved, plan_of, Place, Proper, Before, Ordered, sent, got}
use Rattle.plans.specs.Pieces.{Added, Falling, Rejected, Served}
use Rattle.plans.specs.Promise.{LaidOut}
use Rattle.plans.proofs.Room.{added_more, length_flat}
use Rattle.plans.proofs.Rows.{sent_append, got_append, ordered_append}

-- of one transfer, over all places
one : (n t x : ℕ) → sum_below n (λ e. cond (eqb t e) x 0) ≡ cond (ltb t n) x 0
unfolding sum_below
one zero t x = rw (le-ltb t 0 (omega arith)) refl
one (suc n) t x =
    elim (cases_lt t n) [
      | inl l ↦ rw (lt-ltb t (suc n) (omega arith), ne_eqb t n (λ q. omega arith)) (omega (arith, rw (lt-ltb t n l) at (one n t x)))
      | inr g ↦
          elim (cases_eq t n) [
            | inl e ↦ rw (lt-ltb t (suc n) (omega arith), eq-eqb t n e) (omega (arith, rw (le-ltb t n g) at (one n t x)))
            | inr k ↦ rw (le-ltb t (suc n) (omega arith), ne_eqb t n k) (omega (arith, rw (le-ltb t n g) at (one n t x)))
          ]
    ]

at_a_place : (t x : ℕ) → Place t → sum_below 1000 (λ e. cond (eqb t e) x 0) + cond (eqb t outside) x 0 ≡ x
at_a_place t x (inl l) = rw (ne_eqb t outside (λ q. omega arith)) (omega (arith, rw (lt-ltb t 1000 l) at (one 1000 t x)))
at_a_place t x (inr e) = rw (eq-eqb t outside e) (omega (arith, rw (le-ltb t 1000 (omega arith)) at (one 1000 t x)))

row_one : (b : Bool) (t x : ℕ) → Place t → sum_below 1000 (λ e. cond (b && eqb t e) x 0) + cond (b && eqb t outside) x 0 ≡ cond b x 0
row_one true t x p = at_a_place t x p
row_one false t x p = omega (arith, sum_zero 1000 (λ e. 0) (λ i l. refl))

column_one : (b : Bool) (t x : ℕ) → Place t → sum_below 1000 (λ d. cond (eqb t d && b) x 0) + cond (eqb t outside && b) x 0 ≡ cond b x 0
column_one true t x p = simp and-true (at_a_place t x p)
column_one false t x p = simp and-false (row_one false t x p)

pub row : (ts : List Transfer) (a : ℕ) → AllByRecursion Proper ts → sum_below 1000 (moved ts a) + moved ts a outside ≡ sent ts a
unfolding moved sent
row [] a p = omega (arith, sum_zero 1000 (moved [] a) (λ i l. refl))
row (t ∷ ts) a p =
    omega (
      arith,
      sum_ext 1000 (moved (t ∷ ts) a) (λ e. cond (eqb t.from a && eqb t.to e) t.heat 0 + moved ts a e) (λ i l. refl),
      sum_add 1000 (λ e. cond (eqb t.from a && eqb t.to e) t.heat 0) (moved ts a),
      row_one (eqb t.from a) t.to t.heat p.0.to_place,
      row ts a p.1,
    )

pub column : (ts : List Transfer) (b : ℕ) → AllByRecursion Proper ts → sum_below 1000 (λ d. moved ts d b) + moved ts outside b ≡ got ts b
unfolding moved got
column [] b p = omega (arith, sum_zero 1000 (λ d. moved [] d b) (λ i l. refl))
column (t ∷ ts) b p =
    omega (
      arith,
      sum_add 1000 (λ d. cond (eqb t.from d && eqb t.to b) t.heat 0) (λ d. moved ts d b),
      column_one (eqb t.to b) t.from t.heat p.0.from_place,
      column ts b p.1,
    )

-- none upward, and none from the boiler to the river
nowhere : (a b d e x : ℕ) → (a ≡ d → b ≡ e → ⊥) → cond (eqb a d && eqb b e) x 0 ≡ 0
nowhere a b d e x n =
    elim (cases_eq a d) [
      | inl p ↦ rw (eq-eqb a d p, ne_eqb b e (n p)) refl
      | inr p ↦ rw (ne_eqb a d p) refl
    ]

pub down : (ts : List Transfer) (d e : ℕ) → AllByRecursion Falling ts → d < e → e < 1000 → moved ts d e ≡ 0
unfolding moved
down [] d e f l k = refl
down (t ∷ ts) d e f l k =
    let n : t.from ≡ d → t.to ≡ e → ⊥ = λ p q. elim f.0 [ inl g ↦ omega arith | inr g ↦ omega arith ] in
    omega (arith, nowhere t.from t.to d e t.heat n, down ts d e f.1 l k)

not_through : (ts : List Transfer) → AllByRecursion Proper ts → moved ts outside outside ≡ 0
unfolding moved
not_through [] p = refl
not_through (t ∷ ts) p = omega (arith, nowhere t.from t.to outside outside t.heat p.0.apart, not_through ts p.1)

pub proper : (ts : List Transfer) → Ordered ts → AllByRecursion Proper ts
proper [] o = tt
proper (t ∷ ts) o = (o.0, proper ts o.2)

got_none : (ts : List Transfer) (e : ℕ) → e < 1000 → AllByRecursion (λ t. t.to ≡ outside) ts → got ts e ≡ 0
unfolding got
got_none [] e l a = refl
got_none (t ∷ ts) e l a = rw (ne_eqb t.to e (λ q. omega arith)) (omega (arith, got_none ts e l a.1))

pub laid_out : (h c : ℕ → ℕ) (heating : ℕ) (w w₁ w₂ : Writer) → w.count ≡ 0 → 6000 ≤ length w.room.now → Rejected h heating (sum_from 1000 0 c) w w₁ → Served h c heating w₁ w₂ →
    LaidOut h c heating w₂.count w.room.now w₂.room.now
unfolding bought plan_of
laid_out h c heating w w₁ w₂ none roomy s p =
    let k : 3 * w.count ≡ 0 = omega arith in
    let a : Added w w₂ (s.ts ++ p.ts) = added_more w w₁ w₂ s.ts p.ts s.written p.written in
    let ts : List Transfer = s.ts ++ p.ts in
    let o : Ordered ts
    = ordered_append s.ts p.ts s.ordered p.ordered
    (All-weaker (λ t. t.to ≡ outside) (λ t. AllByRecursion (Before t) p.ts) (λ t e. All-weaker (λ u. u.to < 1000) (Before t) (λ u l. inl (omega arith)) p.ts p.degrees) s.ts s.river) in
    let pr : AllByRecursion Proper ts = proper ts o in
    let f : AllByRecursion Falling ts = All-append Falling s.ts p.ts (All-weaker (λ t. t.to ≡ outside) Falling (λ t e. inr e) s.ts s.river) p.falling in
    record {
      transfers = ts;
      count = omega (arith, a.count);
      fits = omega (arith, a.count, length-append s.ts p.ts, s.few p.few.0 p.few.1, p.few.2);
      room_is = let n : 3 * w₂.count ≡ 3 * w.count + length (flat ts) = omega (arith, a.count, length_flat ts) in rw (n, k) (rw k at a.room_is);
      ordered = o;
      feasible = record {
        gives = λ d l. omega (arith, row ts d pr, sent_append s.ts p.ts d, s.sent_is d l, p.sent_is d l);
        gets = λ e l. omega (arith, column ts e pr, got_append s.ts p.ts e, got_none s.ts e l s.river, p.got_is e l);
        down = λ d e dl el l. down ts d e f l el;
      };
      buys = omega (arith, row ts outside pr, not_through ts pr, sent_append s.ts p.ts outside, s.boiler, p.boiler);
    }
