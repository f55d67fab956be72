-- A printed transfer is read as it was.
use Rattle.std.proofs.Common.{◌≡◌, ℕ, ◌^◌, ◌<◌, true, false, eqb, List, [], ◌∷◌, ◌++◌, length, Some, None, codes, decimal, sym, refl, ap, ◌∙◌, inl, inr, arith, rules}
use Rattle.std.proofs.lemmas.Fmt.{decimal_is_IsNumeral, decimal_nonempty, digits_decimal, digits_value-decimal}
use Rattle.std.proofs.lemmas.Slice.Eq.{bytes_eq-Decides}
use Rattle.std.proofs.lemmas.List.{take_at, drop_at}
use Rattle.std.proofs.lemmas.Str.Parse.{IsNumeralModel, numerals_by_fold, digit_from_value}
use Rattle.std.proofs.lemmas.Bool.{lt-ltb, ne_eqb, and_from, cond-true, cond-false, cases_eq, eq-eqb, eqb-false, and_left}
use Rattle.std.specs.Str.Parse.{AllDigits}
use Rattle.std.specs.Str.{bytes_eq}
use Rattle.lexing.proofs.Cutting.{some_long}
use Rattle.lexing.specs.Lexing.{digits, value_after, number_in}
use Rattle.plans.specs.Transfers.{outside}
use Rattle.printing.specs.Printed.{ended, laid_out}
use Rattle.printing.specs.ReadBack.{ahead, cut, place, reads_transfer, ReadsBack}

-- no byte is c
abbrev Clear : ℕ → List ℕ → Type 0
Clear c [] = Unit {0}
Clear c (b ∷ bs) = (eqb b c ≡ false) × Clear c bs

-- a cut at a text whose first byte stands nowhere before it
cut_at : (c : ℕ) (text xs ys : List ℕ) → Clear c xs → cut (c ∷ text) (xs ++ ((c ∷ text) ++ ys)) ≡ Some (xs, ys)
unfolding cut
cut_at c text [] ys h =
    cond-true _ _ _ ((bytes_eq-Decides (c ∷ text) _).1 (sym (take_at (c ∷ text) ys (length (c ∷ text)) refl)))
    ∙ ap (λ zs. Some ([], zs)) (drop_at (c ∷ text) ys (length (c ∷ text)) refl)
cut_at c text (x ∷ xs) ys h =
    let e : eqb c x ≡ false = ne_eqb c x (λ e. eqb-false x c h.0 (sym e)) in
    cond-false _ _ _ (and_left (eqb c x) _ e) ∙ ap (ahead (x ∷ [])) (cut_at c text xs ys h.1)

-- digits have no blank, no comma and no newline, and are no name
digits_clear : (c : ℕ) (ds : List ℕ) → c < 48 → AllDigits 10 ds → Clear c ds
digits_clear c [] l h = tt
digits_clear c (d ∷ ds) l h =
    let i = digit_from_value d h.0 in
    (ne_eqb d c (λ e. omega (arith, i.0)), digits_clear c ds l h.1)

no_name : (ds : List ℕ) (c : ℕ) (cs : List ℕ) → 57 < c → 0 < length ds → AllDigits 10 ds → bytes_eq ds (c ∷ cs) ≡ false
no_name [] c cs l some h = absurd (omega arith)
no_name (d ∷ ds) c cs l some h =
    let i = digit_from_value d h.0 in
    let e : eqb d c ≡ false = ne_eqb d c (λ e. omega (arith, i.1)) in
    rw e refl

own : IsNumeralModel (λ ds. digits ds ≡ true) (value_after 0)
own = numerals_by_fold _ (search rules) value_after (search rules)

number_decimal : (n : ℕ) → n < 2 ^ 32 → number_in (decimal n) ≡ Some n
unfolding number_in
number_decimal n l =
    let small : n < 2 ^ 64 = omega arith in
    let v : value_after 0 (decimal n) ≡ n = digits_value-decimal own n small in
    cond-true _ (Some (value_after 0 (decimal n))) None
    (and_from _ _ (some_long (decimal n) (decimal_nonempty n small)) (and_from _ _ (digits_decimal own n small) (lt-ltb (value_after 0 (decimal n)) 4294967296 (omega arith))))
    ∙ ap (λ m. Some m) v

-- a part of a line that is read as n
record Part (c : ℕ) (name bs : List ℕ) (n : ℕ) : Type 0 where
  clear : Clear c bs
  is : place name bs ≡ Some n

decimal_clear : (c n : ℕ) → c < 48 → n < 2 ^ 32 → Clear c (decimal n)
decimal_clear c n k l =
    let small : n < 2 ^ 64 = omega arith in
    digits_clear c (decimal n) k (decimal_is_IsNumeral n small).0.1

by_number : (c d : ℕ) (ds : List ℕ) (n : ℕ) → c < 48 → 57 < d → n < 2 ^ 32 → Part c (d ∷ ds) (decimal n) n
unfolding place
by_number c d ds n k m l =
    let small : n < 2 ^ 64 = omega arith in
    let r = decimal_is_IsNumeral n small in
    record {
      clear = decimal_clear c n k l;
      is = cond-false _ (Some outside) (number_in (decimal n)) (no_name (decimal n) d ds m r.0.0 r.0.1) ∙ number_decimal n l;
    }

by_boiler : Part 32 (codes "boiler") (codes "boiler") outside
unfolding place
by_boiler = record { clear = (refl, (refl, (refl, (refl, (refl, (refl, tt)))))); is = refl }

by_river : Part 44 (codes "river") (codes "river") outside
unfolding place
by_river = record { clear = (refl, (refl, (refl, (refl, (refl, tt))))); is = refl }

line_read : (from to : List ℕ) (a b h : ℕ) → Part 32 (codes "boiler") from a → Part 44 (codes "river") to b → h < 2 ^ 32 →
    reads_transfer (laid_out from to (decimal h)) ≡ Some (record { from = a; to = b; heat = h })
line_read from to a b h p q l =
    let e₁ : cut (codes " to ") (laid_out from to (decimal h)) ≡ Some (from, to ++ (codes ", " ++ (decimal h ++ ended))) = cut_at 32 (codes "to ") from _ p.clear in
    let e₂ : cut (codes ", ") (to ++ (codes ", " ++ (decimal h ++ ended))) ≡ Some (to, decimal h ++ ended) = cut_at 44 (codes " ") to _ q.clear in
    let e₃ : cut ended (decimal h ++ ended) ≡ Some (decimal h, []) = cut_at 10 [] (decimal h) [] (decimal_clear 10 h (omega arith) l) in
    rw (e₁, e₂, e₃, p.is, q.is, number_decimal h l) refl

pub reads_back_lem : ReadsBack
reads_back_lem t f g h =
    let from_number : Part 32 (codes "boiler") (decimal t.from) t.from = by_number 32 98 (codes "oiler") t.from (omega arith) (omega arith) f in
    let to_number : Part 44 (codes "river") (decimal t.to) t.to = by_number 44 114 (codes "iver") t.to (omega arith) (omega arith) g in
    elim (cases_eq t.from outside) [
      | inl e ↦
          ap reads_transfer (cond-true (eqb t.from outside) _ _ (eq-eqb t.from outside e))
          ∙ line_read (codes "boiler") (decimal t.to) t.from t.to t.heat (rw e by_boiler) to_number h
      | inr n ↦
          ap reads_transfer (cond-false (eqb t.from outside) _ _ (ne_eqb t.from outside n))
          ∙ elim (cases_eq t.to outside) [
            | inl e ↦
                ap reads_transfer (cond-true (eqb t.to outside) _ _ (eq-eqb t.to outside e))
                ∙ line_read (decimal t.from) (codes "river") t.from t.to t.heat from_number (rw e by_river) h
            | inr m ↦
                ap reads_transfer (cond-false (eqb t.to outside) _ _ (ne_eqb t.to outside m))
                ∙ line_read (decimal t.from) (decimal t.to) t.from t.to t.heat from_number to_number h
          ]
    ]
