-- The loop that meets what is wanted, turn by turn.
use Rattle.std.proofs.Common.{◌≡◌, ℕ, suc, ◌+◌, ◌-◌, ◌*◌, ◌<◌, ◌≤◌, min, ◌⊎◌, List, [], ◌++◌, length, sym, refl, ap, inl, inr, arith}
use Rattle.std.specs.List.{AllByRecursion}
use Rattle.std.proofs.ByRecursion.{All-weaker}
use Rattle.std.proofs.lemmas.Bool.{cases_lt}
use Rattle.std.proofs.lemmas.List.{length-append}
use Rattle.streams.specs.Heat.{sum_from}
use Rattle.streams.proofs.Sums.{from_step, from_falls, from_top}
use Rattle.targets.specs.Deficits.{target}
use Rattle.plans.specs.declared.transfers.Transfer.{Transfer}
use Rattle.plans.specs.declared.transfers.Writer.{Writer}
use Rattle.plans.specs.Transfers.{mark, Above, Ordered, sent, got}
use Rattle.plans.specs.Pieces.{some, Falling, spare, Added, Roomy, Served}
use Rattle.plans.proofs.Given.{Enough, enough, given, given_at, given_step, given_boiler, given_falls, given_past}
use Rattle.plans.proofs.Room.{added_none, added_more}
use Rattle.plans.proofs.Rows.{some_none, some_few, all_more, ordered_more, mark_degree, mark_boiler, mark_place, mark_rises, mark_over}
use Rattle.plans.proofs.Line.{Falls, share, Line, lay, lower_hot, lower_cold, share_none}

-- what is wanted from a degree up
abbrev pub wants : (ℕ → ℕ) → ℕ → ℕ
wants c e = sum_from 1000 e c

-- a place on the line is past another
abbrev Past : (from to a b : ℕ) → Type 0
Past from to a b = (b < to) ⊎ ((b ≡ to) × (a < from))

-- before a turn. Each turn writes one transfer at most, and lowers `from` or `to`; at a pinch both get there at once, by a turn that writes none
pub record Serving (h c : ℕ → ℕ) (heating from hot to cold : ℕ) (w₀ w : Writer) : Type 0 where
  pub ts : List Transfer
  pub written : Added w₀ w ts
  pub line : Line (given h heating) (wants c) from hot to cold ts
  pub ordered : Ordered ts
  pub degrees : AllByRecursion (λ t. t.to < 1000) ts
  pub falling : AllByRecursion Falling ts
  pub ahead : AllByRecursion (Above (mark from) to) ts
  pub over : to ≤ from
  pub from_top : from ≤ 1000
  pub to_top : to < 1000
  pub few : length ts + from + to ≤ 1999
  pub pinched : (d : ℕ) → d ≤ 1000 → wants c d ≡ given h heating d → from < d → (to < d) × (length ts + from + to ≤ 1998)

-- in it, when the transfer is written
pub record Laid (h c : ℕ → ℕ) (heating from hot to cold : ℕ) (w₀ w : Writer) : Type 0 where
  pub ts : List Transfer
  pub written : Added w₀ w ts
  pub line : Line (given h heating) (wants c) from hot to cold ts
  pub ordered : Ordered ts
  pub degrees : AllByRecursion (λ t. t.to < 1000) ts
  pub falling : AllByRecursion Falling ts
  pub ahead : (a b : ℕ) → Past from to a b → AllByRecursion (Above (mark a) b) ts
  pub over : to ≤ from
  pub from_top : from ≤ 1000
  pub to_top : to < 1000
  pub few : length ts + from + to ≤ 2000
  pub past : (d : ℕ) → d ≤ 1000 → wants c d ≡ given h heating d → from < d → to < d
  pub pinched : (d : ℕ) → d ≤ 1000 → wants c d ≡ given h heating d → from ≤ d → to < d → length ts + from + to ≤ 1999

lower : (from to a b : ℕ) → from ≤ 1000 → Past from to a b → (u : Transfer) → Above (mark from) to u → Above (mark a) b u
lower from to a b top (inl l) u (inl g) = inl (omega arith)
lower from to a b top (inl l) u (inr g) = inl (omega arith)
lower from to a b top (inr l) u (inl g) = inl (omega arith)
lower from to a b top (inr l) u (inr g) = inr (omega arith, omega (arith, mark_rises a from l.1 top))

here : (from to a b : ℕ) → from ≤ 1000 → Past from to a b → (b < to) ⊎ ((b ≡ to) × (mark a < mark from))
here from to a b top (inl l) = inl l
here from to a b top (inr l) = inr (l.0, mark_rises a from l.1 top)

module _ (h c : ℕ → ℕ) (heating : ℕ) where
  wants_falls : Falls (wants c)
  wants_falls d e l = from_falls 1000 d e c l

  just : (en : Enough h c heating) → wants c en.pinch ≡ given h heating en.pinch
  just en = omega (arith, en.just, given_at h heating en.pinch en.pinch_top)

  pub starts : (w : Writer) → heating ≡ target 1000 h c → Roomy h c heating w → Serving h c heating 1000 heating 999 (c 999) w w
  unfolding sent got
  starts w t r =
      let en = enough h c heating t in
      record {
        ts = [];
        written = added_none w (omega (arith, r en.pinch (omega (arith, en.just, wants_falls 0 en.pinch (omega arith))), en.pinch_top));
        line = record {
          p = 0;
          hot_is = omega (arith, given_boiler h heating);
          hot_began = omega (arith, given_past h heating 1001 (omega arith));
          cold_is = omega (arith, from_step 1000 999 c (omega arith), from_top 1000 1000 c (omega arith));
          cold_began = omega (arith, from_top 1000 1000 c (omega arith));
          sent_is = λ d l. sym (share_none (given h heating) d);
          got_is = λ e. sym (share_none (wants c) e);
        };
        ordered = tt;
        degrees = tt;
        falling = tt;
        ahead = tt;
        over = omega arith;
        from_top = omega arith;
        to_top = omega arith;
        few = omega arith;
        pinched = λ d q r l. absurd (omega arith);
      }

  -- so many degrees, counted from below, give no more than the river gets
  unused : (k from p : ℕ) → (en : Enough h c heating) → given h heating (suc from) ≤ p → p ≤ wants c 0 → k + from ≤ 2000 → (from < en.pinch → k + from ≤ 1999) →
      (d : ℕ) × (heating + sum_from 1000 d h ≤ sum_from 1000 0 c) × (k + d ≤ 2000)
  unused k from p en l u few pinched =
      elim (cases_lt from en.pinch) [
        | inl g ↦ (suc from, omega (arith, given_at h heating (suc from) (omega (arith, en.pinch_top))), omega (arith, pinched g))
        | inr g ↦ (from, omega (arith, en.just, from_falls 1000 en.pinch from h g, wants_falls 0 en.pinch (omega arith)), few)
      ]

  pub fits : {from hot to cold : ℕ} {w₀ w : Writer} → heating ≡ target 1000 h c → Roomy h c heating w₀ → Serving h c heating from hot to cold w₀ w → 3 * w.count + 3 ≤ length w.room.now
  fits {from} {hot} {to} t r s =
      let en = enough h c heating t in
      let u = unused (length s.ts + 1) from s.line.p en s.line.hot_began (omega (arith, s.line.cold_is, wants_falls 0 to (omega arith))) (omega (arith, s.few)) (λ g. omega (arith, s.pinched en.pinch en.pinch_top (just en) g)) in
      omega (arith, r u.0 u.1, s.written.count, s.written.size)

  pub cold_few : {from hot to cold : ℕ} {w₀ w : Writer} → Serving h c heating from hot to cold w₀ w → cold ≤ c to
  cold_few {from} {hot} {to} s = omega (arith, s.line.cold_is, s.line.cold_began, from_step 1000 to c s.to_top)

  -- a turn, and the three ways on from it
  module _ {from hot to cold x m : ℕ} {w₀ w w₁ : Writer} (em : m ≡ mark from) (ex : x ≡ min hot cold) (a : Added w w₁ (some (record { from = m; to = to; heat = x })))
      (before : Serving h c heating from hot to cold w₀ w) where
    laid : Laid h c heating from (hot - x) to (cold - x) w₀ w₁
    laid =
        let t : Transfer = record { from = mark from; to = to; heat = x } in
        record {
          ts = before.ts ++ some t;
          written = added_more w₀ w w₁ before.ts (some t) before.written (rw em at a);
          line = lay (given h heating) (wants c) (given_falls h heating) wants_falls from hot to cold x before.ts before.from_top (omega arith) (omega arith) before.line;
          ordered = ordered_more before.ts t before.ordered before.ahead (λ y. record { something = y; from_place = mark_place from; to_place = inl before.to_top; apart = λ p q. omega (arith, before.to_top) });
          degrees = all_more (λ u. u.to < 1000) before.ts t before.degrees (λ _. before.to_top);
          falling = all_more Falling before.ts t before.falling (λ _. inl (omega (arith, before.over, mark_over from before.from_top)));
          ahead = λ a b l. all_more (Above (mark a) b) before.ts t (All-weaker (Above (mark from) to) (Above (mark a) b) (lower from to a b before.from_top l) before.ts before.ahead) (λ _. here from to a b before.from_top l);
          over = before.over;
          from_top = before.from_top;
          to_top = before.to_top;
          few = omega (arith, length-append before.ts (some t), some_few t, before.few);
          past = λ d q r l. (before.pinched d q r l).0;
          pinched = λ d q r l k.
              elim (cases_lt from d) [
                | inl g ↦ omega (arith, length-append before.ts (some t), some_few t, before.pinched d q r g)
                | inr g ↦
                    let fd : from ≡ d = omega arith in
                    let z : x ≡ 0 = omega (arith, before.line.hot_is, before.line.cold_began, wants_falls (suc to) d k, ap (given h heating) fd) in
                    omega (arith, length-append before.ts (some t), ap length (some_none t z), before.few)
              ];
        }

    -- what gives is used up, and what takes is not
    pub next_from : heating ≡ target 1000 h c → 0 < cold - x → (to < from) × Serving h c heating (from - 1) (h (from - 1)) to (cold - x) w₀ w₁
    next_from t z =
        let s = laid in
        let en = enough h c heating t in
        let l : to < from
        = elim (cases_lt to from) [
          | inl l ↦ l
          | inr g ↦ absurd (omega (arith, given_falls h heating from to g, en.covers to (omega (arith, s.to_top)), given_at h heating to (omega (arith, s.to_top)), s.line.hot_is, s.line.cold_is))
        ] in
        let q : suc (from - 1) ≡ from = omega arith in
        let st : given h heating (from - 1) ≡ given h heating from + h (from - 1) = rw q at (given_step h heating (from - 1) (omega (arith, s.from_top))) in (
          l,
          record {
            ts = s.ts;
            written = s.written;
            line = lower_hot (given h heating) (wants c) from (hot - x) (h (from - 1)) to (cold - x) s.ts (omega arith) (omega arith) st s.line;
            ordered = s.ordered;
            degrees = s.degrees;
            falling = s.falling;
            ahead = s.ahead (from - 1) to (inr (refl, omega arith));
            over = omega arith;
            from_top = omega (arith, s.from_top);
            to_top = s.to_top;
            few = omega (arith, s.few);
            pinched = λ d w j g.
                let k : to < d
                = elim (cases_lt to d) [ inl k ↦ k | inr k ↦ absurd (omega (arith, wants_falls d to k, given_falls h heating from d (omega arith), s.line.hot_is, s.line.cold_is)) ] in
                (k, omega (arith, s.pinched d w j (omega arith) k));
          },
        )

    -- what takes has all that it wants
    pub next_to : 0 < to → cold - x ≡ 0 → Serving h c heating from (hot - x) (to - 1) (c (to - 1)) w₀ w₁
    next_to z e =
        let s = laid in
        let q : suc (to - 1) ≡ to = omega arith in
        let st : wants c (to - 1) ≡ wants c to + c (to - 1) = rw q at (from_step 1000 (to - 1) c (omega (arith, s.to_top))) in
        record {
          ts = s.ts;
          written = s.written;
          line = lower_cold (given h heating) (wants c) from (hot - x) to (cold - x) (c (to - 1)) s.ts z e st s.line;
          ordered = s.ordered;
          degrees = s.degrees;
          falling = s.falling;
          ahead = s.ahead from (to - 1) (inl (omega arith));
          over = omega (arith, s.over);
          from_top = s.from_top;
          to_top = omega (arith, s.to_top);
          few = omega (arith, s.few);
          pinched = λ d w j g. let k = s.past d w j g in (omega arith, omega (arith, s.pinched d w j (omega arith) k));
        }

    -- all have
    pub ends : heating ≡ target 1000 h c → to ≡ 0 → cold - x ≡ 0 → Served h c heating w₀ w₁
    unfolding share spare
    ends t ez ec =
        let s = laid in
        let en = enough h c heating t in
        let e : s.line.p ≡ sum_from 1000 0 c = omega (arith, s.line.cold_is, ap (wants c) ez) in
        record {
          ts = s.ts;
          written = s.written;
          ordered = s.ordered;
          degrees = s.degrees;
          falling = s.falling;
          sent_is = λ d l. omega (
            arith,
            rw (mark_degree d l) at (s.line.sent_is d (omega arith)),
            given_at h heating d (omega arith),
            given_at h heating (suc d) (omega arith),
            from_step 1000 d h l,
          );
          boiler = omega (
            arith,
            rw (mark_boiler 1000 (omega arith)) at (s.line.sent_is 1000 (omega arith)),
            given_boiler h heating,
            given_past h heating 1001 (omega arith),
            en.just,
            wants_falls 0 en.pinch (omega arith),
          );
          got_is = λ d l. omega (arith, s.line.got_is d, wants_falls 0 d (omega arith), from_step 1000 d c l);
          few = unused (length s.ts) from s.line.p en s.line.hot_began (omega (arith, e)) (omega (arith, s.few)) (λ g. omega (arith, s.pinched en.pinch en.pinch_top (just en) (omega arith) (omega arith)));
        }
