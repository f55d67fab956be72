-- The line of heat, laid as far as p: which place gives, which takes, and what each has given and taken so far.
use Rattle.std.proofs.Common.{◌≡◌, ℕ, suc, ◌+◌, ◌-◌, ◌<◌, ◌≤◌, min, cond, eqb, List, ◌++◌, sym, ap, ◌∙◌, inl, inr, arith}
use Rattle.std.proofs.lemmas.Bool.{eq-eqb, ne_eqb, cases_order}
use Rattle.plans.specs.declared.transfers.Transfer.{Transfer}
use Rattle.plans.specs.Transfers.{mark, sent, got}
use Rattle.plans.specs.Pieces.{some}
use Rattle.plans.proofs.Rows.{sent_more, got_more, mark_eqb}

abbrev pub Falls : (ℕ → ℕ) → Type 0
Falls F = (d e : ℕ) → d ≤ e → F e ≤ F d

-- what d gives of the first p on the line, where F d is what is given from d up
unfoldable pub share : (ℕ → ℕ) → ℕ → ℕ → ℕ
share F p d = min p (F d) - min p (F (suc d))

-- x more of the line lies within i, and in no other place
pub share_more : (F : ℕ → ℕ) → Falls F → (i d p x : ℕ) → F (suc i) ≤ p → p + x ≤ F i → share F (p + x) d ≡ share F p d + cond (eqb i d) x 0
unfolding share
share_more F f i d p x l u =
    elim (cases_order i d) [
      | inl e ↦ rw (eq-eqb i d e) (let a : F d ≡ F i = ap F (sym e) in let b : F (suc d) ≡ F (suc i) = ap (λ k. F (suc k)) (sym e) in omega arith)
      | inr o ↦ elim o [
        | inl g ↦ rw (ne_eqb i d (λ q. omega arith)) (omega (arith, f (suc i) d g, f d (suc d) (omega arith)))
        | inr g ↦ rw (ne_eqb i d (λ q. omega arith)) (omega (arith, f (suc d) i g, f d (suc d) (omega arith)))
      ]
    ]

pub share_none : (F : ℕ → ℕ) (d : ℕ) → share F 0 d ≡ 0
unfolding share
share_none F d = omega arith

pub record Line (S D : ℕ → ℕ) (from hot to cold : ℕ) (ts : List Transfer) : Type 0 where
  pub p : ℕ
  pub hot_is : p + hot ≡ S from
  pub hot_began : S (suc from) ≤ p
  pub cold_is : p + cold ≡ D to
  pub cold_began : D (suc to) ≤ p
  pub sent_is : (d : ℕ) → d ≤ 1000 → sent ts (mark d) ≡ share S p d
  pub got_is : (e : ℕ) → got ts e ≡ share D p e

module _ (S D : ℕ → ℕ) where
  -- x passes
  pub lay : Falls S → Falls D → (from hot to cold x : ℕ) (ts : List Transfer) → from ≤ 1000 → x ≤ hot → x ≤ cold → Line S D from hot to cold ts →
      Line S D from (hot - x) to (cold - x) (ts ++ some (record { from = mark from; to = to; heat = x }))
  lay sf df from hot to cold x ts top xh xc l =
      let t : Transfer = record { from = mark from; to = to; heat = x } in
      record {
        p = l.p + x;
        hot_is = omega (arith, l.hot_is);
        hot_began = omega (arith, l.hot_began);
        cold_is = omega (arith, l.cold_is);
        cold_began = omega (arith, l.cold_began);
        sent_is = λ d k.
            sent_more ts t (mark d) ∙ rw (mark_eqb from d top k) (omega (arith, l.sent_is d k, share_more S sf from d l.p x l.hot_began (omega (arith, l.hot_is))));
        got_is = λ e. omega (arith, got_more ts t e, l.got_is e, share_more D df to e l.p x l.cold_began (omega (arith, l.cold_is)));
      }

  -- the next place that gives, and the next that takes
  pub lower_hot : (from hot hot₁ to cold : ℕ) (ts : List Transfer) → 0 < from → hot ≡ 0 → S (from - 1) ≡ S from + hot₁ → Line S D from hot to cold ts → Line S D (from - 1) hot₁ to cold ts
  lower_hot from hot hot₁ to cold ts z e st l =
      let q : suc (from - 1) ≡ from = omega arith in
      record {
        p = l.p;
        hot_is = omega (arith, l.hot_is);
        hot_began = rw q (omega (arith, l.hot_is));
        cold_is = l.cold_is;
        cold_began = l.cold_began;
        sent_is = l.sent_is;
        got_is = l.got_is;
      }

  pub lower_cold : (from hot to cold cold₁ : ℕ) (ts : List Transfer) → 0 < to → cold ≡ 0 → D (to - 1) ≡ D to + cold₁ → Line S D from hot to cold ts → Line S D from hot (to - 1) cold₁ ts
  lower_cold from hot to cold cold₁ ts z e st l =
      let q : suc (to - 1) ≡ to = omega arith in
      record {
        p = l.p;
        hot_is = l.hot_is;
        hot_began = l.hot_began;
        cold_is = omega (arith, l.cold_is);
        cold_began = rw q (omega (arith, l.cold_is));
        sent_is = l.sent_is;
        got_is = l.got_is;
      }
