-- Every plan that is in order and feasible is found good, and so is what the planner promises.
use Rattle.std.proofs.Common.{◌≡◌, ℕ, zero, suc, ◌+◌, ◌*◌, ◌%◌, ◌<◌, ◌≤◌, Bool, true, false, not, eqb, ltb, List, [], ◌∷◌, length, take, drop, Some, None, Option, Ok, Err, Result, refl, ap, ◌∙◌, arith}
use Rattle.std.specs.List.{AllByRecursion}
use Rattle.std.proofs.ByRecursion.{All-take, All-weaker}
use Rattle.std.proofs.lemmas.List.{take_at, length-append}
use Rattle.std.proofs.lemmas.Bool.{not-false, eqb-true, ltb-false, eq-eqb}
use Rattle.streams.specs.declared.refusals.Refusal.{Refusal}
use Rattle.streams.specs.Heat.{supply_of, demand_of}
use Rattle.streams.specs.Rules.{streams_in, when, first, refusal, refusal_with_room}
use Rattle.targets.specs.Plans.{Feasible}
use Rattle.plans.specs.declared.transfers.Transfer.{Transfer}
use Rattle.plans.specs.Transfers.{flat, moved, plan_of, Proper, Before, Ordered}
use Rattle.plans.specs.Promise.{LaidOut}
use Rattle.plans.proofs.Made.{row, column, proper}
use Rattle.plans.proofs.Room.{length_flat}
use Rattle.judge.specs.declared.flaws.Flaw.{Flaw}
use Rattle.judge.specs.declared.flaws.Flaw.TheVariants.{Unfit, OutOfOrder, Unbalanced}
use Rattle.judge.specs.Verdicts.{transfers_in, advised, Fit, Rises, InOrder, Balanced, Judged, Just}

-- the front of what is in order is in order
ordered_front : (n : ℕ) (ts : List Transfer) → Ordered ts → Ordered (take n ts)
ordered_front zero ts o = tt
ordered_front (suc n) [] o = tt
ordered_front (suc n) (t ∷ ts) o = (o.0, All-take (Before t) n ts o.1, ordered_front n ts o.2)

-- each transfer is part of what goes from its place to its place
counted : (ts : List Transfer) → AllByRecursion (λ t. t.heat ≤ moved ts t.from t.to) ts
unfolding moved
counted [] = tt
counted (t ∷ ts) = (
  rw (eq-eqb t.from t.from refl, eq-eqb t.to t.to refl) (omega arith),
  All-weaker (λ u. u.heat ≤ moved ts u.from u.to) (λ u. u.heat ≤ moved (t ∷ ts) u.from u.to) (λ u l. omega arith) ts (counted ts),
)

none_rises : (m : ℕ → ℕ → ℕ) (ts : List Transfer) → AllByRecursion Proper ts → AllByRecursion (λ t. t.heat ≤ m t.from t.to) ts →
    ((d e : ℕ) → d < 1000 → e < 1000 → d < e → m d e ≡ 0) → AllByRecursion (λ t. Rises t → ⊥) ts
none_rises m [] p c z = tt
none_rises m (t ∷ ts) p c z =
    (λ r. omega (arith, p.0.something, c.0, z t.from t.to (omega (arith, r.0, r.1)) r.0 r.1), none_rises m ts p.1 c.1 z)

in_order : (supply demand : ℕ → ℕ) (ts : List Transfer) → Ordered ts → Feasible 1000 supply demand (plan_of ts) → InOrder ts
unfolding plan_of
in_order supply demand ts o f = record { ordered = o; none_rises = none_rises (moved ts) ts (proper ts o) (counted ts) f.down }

balanced : (xs : List ℕ) (gap : ℕ) (ts : List Transfer) (d : ℕ) → d < 1000 → Ordered ts →
    Feasible 1000 (supply_of (streams_in xs)) (demand_of gap (streams_in xs)) (plan_of ts) → Balanced xs gap ts d
unfolding plan_of
balanced xs gap ts d l o f = record { gives = omega (arith, row ts d (proper ts o), f.gives d l); gets = omega (arith, column ts d (proper ts o), f.gets d l) }

good : (xs : List ℕ) (gap : ℕ) (room : List ℕ) (n : ℕ) (v : Result (Unit {0}) Flaw) → Judged xs gap room n v → Fit xs room n → Ordered (advised room n) →
    Feasible 1000 (supply_of (streams_in xs)) (demand_of gap (streams_in xs)) (plan_of (advised room n)) → v ≡ Ok tt
good xs gap room n (Ok _) j fit o f = refl
good xs gap room n (Err Unfit) j fit o f = absurd (j fit)
good xs gap room n (Err (OutOfOrder i)) j fit o f =
    let all : InOrder (advised room n) = in_order (supply_of (streams_in xs)) (demand_of gap (streams_in xs)) (advised room n) o f in
    absurd (j.3 (record { ordered = ordered_front (i + 1) (advised room n) o; none_rises = All-take (λ t. Rises t → ⊥) (i + 1) (advised room n) all.none_rises }))
good xs gap room n (Err (Unbalanced d)) j fit o f = absurd (j.4 (balanced xs gap (advised room n) d j.2 o f))

-- what stands in the room is read as it was written
read_back : (ts : List Transfer) → transfers_in (flat ts) ≡ ts
read_back [] = refl
read_back (t ∷ ts) = ap (λ us. t ∷ us) (read_back ts)

laid_out_advised : (supply demand : ℕ → ℕ) (heating n : ℕ) (old room : List ℕ) → (l : LaidOut supply demand heating n old room) → advised room n ≡ l.transfers
laid_out_advised supply demand heating n old room l =
    let e : length (flat l.transfers) ≡ 3 * n = omega (arith, length_flat l.transfers, l.count) in
    ap (λ ws. transfers_in (take (3 * n) ws)) l.room_is ∙ ap transfers_in (take_at (flat l.transfers) (drop (3 * n) old) (3 * n) e) ∙ read_back l.transfers

-- numbers that are not refused are in fours, and of no more than 64 streams
first_none : (o : Option Refusal) (rules : List (Option Refusal)) → first (o ∷ rules) ≡ None → (o ≡ None) × (first rules ≡ None)
first_none None rules e = (refl, e)
first_none (Some r) rules e = let z : ◌≡◌ {A = ℕ} 0 1 = cc in absurd (omega arith)

when_none : (b : Bool) (r : Refusal) (rules : List (Option Refusal)) → first (when b r ∷ rules) ≡ None → (b ≡ false) × (first rules ≡ None)
when_none true r rules e = let z : ◌≡◌ {A = ℕ} 0 1 = cc in absurd (omega arith)
when_none false r rules e = (refl, e)

streams_fit : (xs : List ℕ) (gap : ℕ) (old : List ℕ) → refusal_with_room xs gap old ≡ None → (length xs % 4 ≡ 0) × (length xs ≤ 256)
streams_fit xs gap old e =
    let a = first_none (refusal xs gap) _ e in
    let b = when_none (not (eqb (length xs % 4) 0)) _ _ a.0 in
    let c = when_none (ltb 256 (length xs)) _ _ b.1 in
    (eqb-true (length xs % 4) 0 (not-false _ b.0), ltb-false 256 (length xs) c.0)

pub just : (xs : List ℕ) (gap : ℕ) (room : List ℕ) (n : ℕ) (v : Result (Unit {0}) Flaw) → Judged xs gap room n v → Just xs gap room n v
just xs gap room n v j =
    record {
      any_good = good xs gap room n v j;
      planned = λ old heating p.
          let fit = streams_fit xs gap old p.0 in
          let l = p.1.laid_out in
          let e = laid_out_advised _ _ heating n old room l in
          let fits : 3 * n ≤ length room = omega (arith, ap length l.room_is, length-append (flat l.transfers) (drop (3 * n) old), length_flat l.transfers, l.count) in
          good xs gap room n v j (record { fours = fit.0; few = fit.1; fits = fits }) (rw e l.ordered) (rw e l.feasible);
    }
