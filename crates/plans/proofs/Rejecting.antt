-- What goes to the river, degree by degree from the top.
use Rattle.std.proofs.Common.{◌≡◌, ℕ, ◌+◌, ◌-◌, ◌*◌, ◌<◌, ◌≤◌, min, List, [], ◌∷◌, ◌++◌, length, get_or, take, sym, refl, ap, inl, inr, arith}
use Rattle.std.specs.List.{AllByRecursion}
use Rattle.std.proofs.ByRecursion.{All-weaker}
use Rattle.std.proofs.lemmas.Bool.{cases_lt, cases_eq, eq-eqb, ne_eqb}
use Rattle.std.proofs.lemmas.List.{length-append, take_all}
use Rattle.streams.specs.Heat.{sum_from}
use Rattle.streams.proofs.Backward.{Left, one_less}
use Rattle.streams.proofs.Sums.{from_step, from_top, from_falls}
use Rattle.plans.specs.declared.transfers.Transfer.{Transfer}
use Rattle.plans.specs.declared.transfers.Writer.{Writer}
use Rattle.plans.specs.Transfers.{outside, Above, Ordered, sent}
use Rattle.plans.specs.Pieces.{some, spare, Added, Rejected}
use Rattle.plans.proofs.Totals.{sum_is, sum_few}
use Rattle.plans.proofs.Room.{added_none, added_more}
use Rattle.plans.proofs.Rows.{some_none, some_few, all_more, ordered_more, sent_more}

-- the numbers of a list, as a function of the degree
abbrev at : List ℕ → ℕ → ℕ
at xs d = get_or xs d 0

-- before a degree is gone through; `rest` is what is left of the list
pub record Rejecting (xs rest : List ℕ) (heating wanted given : ℕ) (w₀ w : Writer) : Type 0 where
  pub front : rest ≡ take (length rest) xs
  pub ts : List Transfer
  pub written : Added w₀ w ts
  pub ordered : Ordered ts
  pub river : AllByRecursion (λ t. (t.to ≡ outside) × (length rest ≤ t.from)) ts
  pub given_is : given ≡ heating + sum_from 1000 (length rest) (at xs)
  pub done : (e : ℕ) → length rest ≤ e → e < 1000 → sent ts e ≡ spare (at xs) heating wanted e
  pub left : (e : ℕ) → e < length rest → sent ts e ≡ 0
  pub boiler : sent ts outside ≡ 0
  pub fits : length ts + length rest ≤ 1000
  pub few : (m : ℕ) → heating + sum_from 1000 m (at xs) ≤ wanted → length ts ≤ m - length rest

module _ (xs : List ℕ) (long : length xs ≡ 1000) (heating wanted : ℕ) where
  pub starts : (w : Writer) → 3 * w.count ≤ length w.room.now → Rejecting xs xs heating wanted heating w w
  unfolding sent
  starts w b =
      record {
        front = sym (take_all (length xs) xs (omega arith));
        ts = [];
        written = added_none w b;
        ordered = tt;
        river = tt;
        given_is = omega (arith, from_top 1000 (length xs) (at xs) (omega arith));
        done = λ e l k. absurd (omega arith);
        left = λ e l. refl;
        boiler = refl;
        fits = omega arith;
        few = λ m l. omega arith;
      }

  module _ {rest : List ℕ} {given : ℕ} {w₀ w : Writer} (rest₁ : List ℕ) (y : ℕ) (e : rest ≡ rest₁ ++ y ∷ []) (s : Rejecting xs rest heating wanted given w₀ w) where
    less : Left xs rest rest₁ y
    less = one_less xs rest rest₁ y s.front e

    more_given : given + y ≡ heating + sum_from 1000 (length rest₁) (at xs)
    more_given =
        let o = less in
        omega (arith, o.last, s.given_is, rw (← o.long) at (from_step 1000 (length rest₁) (at xs) (omega (arith, o.long, s.fits))))

    pub given_few : heating ≤ 64000000000 → ((d : ℕ) → d < 1000 → at xs d ≤ 64000000) → given + y ≤ 128000000000
    given_few l few = omega (arith, more_given, from_falls 1000 0 (length rest₁) (at xs) (omega arith), sum_is xs long, sum_few xs long few)

    pub goes_on : {d x : ℕ} {w₁ : Writer} → d ≡ length rest₁ → x ≡ min y ((given + y) - wanted) → Added w w₁ (some (record { from = d; to = outside; heat = x })) →
        Rejecting xs rest₁ heating wanted (given + y) w₀ w₁
    unfolding spare
    goes_on {d} {x} {w₁} ed ex a =
        let o = less in
        let t : Transfer = record { from = d; to = outside; heat = x } in
        let l : d < 1000 = omega (arith, o.long, s.fits) in
        let here : y ≡ at xs d = rw ed o.last in
        let g : given + y ≡ heating + sum_from 1000 d (at xs) = rw ed more_given in
        record {
          front = o.front;
          ts = s.ts ++ some t;
          written = added_more w₀ w w₁ s.ts (some t) s.written a;
          ordered = ordered_more s.ts t s.ordered
              (All-weaker (λ t. (t.to ≡ outside) × (length rest ≤ t.from)) (Above d outside) (λ u q. inr (sym q.0, omega (arith, q.1, o.long))) s.ts s.river)
              (λ q. record { something = q; from_place = inl l; to_place = inr refl; apart = λ a b. omega arith });
          river = all_more (λ u. (u.to ≡ outside) × (length rest₁ ≤ u.from)) s.ts t
              (All-weaker (λ u. (u.to ≡ outside) × (length rest ≤ u.from)) (λ u. (u.to ≡ outside) × (length rest₁ ≤ u.from)) (λ u q. (q.0, omega (arith, o.long))) s.ts s.river)
              (λ _. (refl, omega arith));
          given_is = more_given;
          done = λ b k q.
              elim (cases_eq d b) [
                | inl p ↦ rw (← p) (omega (arith, rw (eq-eqb d d refl) at (sent_more s.ts t d), s.left d (omega (arith, o.long))))
                | inr p ↦ omega (arith, rw (ne_eqb d b p) at (sent_more s.ts t b), s.done b (omega (arith, o.long)) q)
              ];
          left = λ b k. omega (arith, rw (ne_eqb d b (λ q. omega arith)) at (sent_more s.ts t b), s.left b (omega (arith, o.long)));
          boiler = omega (arith, rw (ne_eqb d outside (λ q. omega arith)) at (sent_more s.ts t outside), s.boiler);
          fits = omega (arith, o.long, length-append s.ts (some t), some_few t, s.fits);
          few = λ m k.
              elim (cases_lt d m) [
                | inl q ↦ omega (arith, o.long, length-append s.ts (some t), some_few t, s.few m k)
                | inr q ↦ let z : x ≡ 0 = omega (arith, from_falls 1000 m d (at xs) q) in omega (arith, length-append s.ts (some t), ap length (some_none t z), s.few m k)
              ];
        }

  pub ends : {rest : List ℕ} {given : ℕ} {w₀ w : Writer} → length rest ≡ 0 → Rejecting xs rest heating wanted given w₀ w → Rejected (at xs) heating wanted w₀ w
  ends {rest} z s =
      record {
        ts = s.ts;
        written = s.written;
        ordered = s.ordered;
        river = All-weaker (λ t. (t.to ≡ outside) × (length rest ≤ t.from)) (λ t. t.to ≡ outside) (λ t q. q.0) s.ts s.river;
        sent_is = λ d l. s.done d (omega arith) l;
        boiler = s.boiler;
        few = λ m l. omega (arith, s.few m l);
      }
