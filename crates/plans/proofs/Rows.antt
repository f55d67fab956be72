-- Transfers in a list: what all come to, and their order.
use Rattle.std.proofs.Common.{◌≡◌, ℕ, ◌+◌, ◌<◌, ◌≤◌, Bool, true, false, cond, eqb, List, [], ◌∷◌, ◌++◌, length, sym, refl, ap, ◌∙◌, inl, inr, arith}
use Rattle.std.specs.List.{AllByRecursion}
use Rattle.std.proofs.ByRecursion.{All-append, All-weaker}
use Rattle.std.proofs.lemmas.Bool.{cases_eq, cases_lt, eq-eqb, ne_eqb, lt-ltb, le-ltb, cases_order}
use Rattle.plans.specs.declared.transfers.Transfer.{Transfer}
use Rattle.plans.specs.Transfers.{outside, mark, Place, Proper, Above, Before, Ordered, sent, got}
use Rattle.plans.specs.Pieces.{some}

pub some_none : (t : Transfer) → t.heat ≡ 0 → some t ≡ []
unfolding some
some_none t e = rw (eq-eqb t.heat 0 e) refl

pub some_one : (t : Transfer) → (t.heat ≡ 0 → ⊥) → some t ≡ t ∷ []
unfolding some
some_one t n = rw (ne_eqb t.heat 0 n) refl

pub sent_append : (ts us : List Transfer) (a : ℕ) → sent (ts ++ us) a ≡ sent ts a + sent us a
unfolding sent
sent_append [] us a = omega arith
sent_append (t ∷ ts) us a = omega (arith, sent_append ts us a)

pub got_append : (ts us : List Transfer) (b : ℕ) → got (ts ++ us) b ≡ got ts b + got us b
unfolding got
got_append [] us b = omega arith
got_append (t ∷ ts) us b = omega (arith, got_append ts us b)

nothing : (b : Bool) (x : ℕ) → x ≡ 0 → cond b x 0 ≡ 0
nothing true x e = e
nothing false x e = refl

pub sent_more : (ts : List Transfer) (t : Transfer) (a : ℕ) → sent (ts ++ some t) a ≡ sent ts a + cond (eqb t.from a) t.heat 0
unfolding sent
sent_more ts t a =
    elim (cases_eq t.heat 0) [
      | inl e ↦ omega (arith, sent_append ts (some t) a, ap (λ us. sent us a) (some_none t e), nothing (eqb t.from a) t.heat e)
      | inr n ↦ omega (arith, sent_append ts (some t) a, ap (λ us. sent us a) (some_one t n))
    ]

pub got_more : (ts : List Transfer) (t : Transfer) (b : ℕ) → got (ts ++ some t) b ≡ got ts b + cond (eqb t.to b) t.heat 0
unfolding got
got_more ts t b =
    elim (cases_eq t.heat 0) [
      | inl e ↦ omega (arith, got_append ts (some t) b, ap (λ us. got us b) (some_none t e), nothing (eqb t.to b) t.heat e)
      | inr n ↦ omega (arith, got_append ts (some t) b, ap (λ us. got us b) (some_one t n))
    ]

pub some_few : (t : Transfer) → length (some t) ≤ 1
some_few t = elim (cases_eq t.heat 0) [ inl e ↦ rw (some_none t e) (omega arith) | inr n ↦ rw (some_one t n) (omega arith) ]

pub all_some : (P : Transfer → Type 0) (t : Transfer) → (1 ≤ t.heat → P t) → AllByRecursion P (some t)
all_some P t f = elim (cases_eq t.heat 0) [ inl e ↦ rw (some_none t e) tt | inr n ↦ rw (some_one t n) (f (omega arith), tt) ]

pub all_more : (P : Transfer → Type 0) (ts : List Transfer) (t : Transfer) → AllByRecursion P ts → (1 ≤ t.heat → P t) → AllByRecursion P (ts ++ some t)
all_more P ts t a f = All-append P ts (some t) a (all_some P t f)

pub ordered_append : (ts us : List Transfer) → Ordered ts → Ordered us → AllByRecursion (λ t. AllByRecursion (Before t) us) ts → Ordered (ts ++ us)
ordered_append [] us o v b = v
ordered_append (t ∷ ts) us o v b = (o.0, All-append (Before t) ts us o.1 b.0, ordered_append ts us o.2 v b.1)

alone : (t : Transfer) → (1 ≤ t.heat → Proper t) → Ordered (some t)
alone t f = elim (cases_eq t.heat 0) [ inl e ↦ rw (some_none t e) tt | inr n ↦ rw (some_one t n) (f (omega arith), tt, tt) ]

pub ordered_more : (ts : List Transfer) (t : Transfer) → Ordered ts → AllByRecursion (Above t.from t.to) ts → (1 ≤ t.heat → Proper t) → Ordered (ts ++ some t)
ordered_more ts t o a f =
    ordered_append ts (some t) o (alone t f) (All-weaker (Above t.from t.to) (λ u. AllByRecursion (Before u) (some t)) (λ u b. all_some (Before u) t (λ _. b)) ts a)

-- marks
pub mark_degree : (d : ℕ) → d < 1000 → mark d ≡ d
unfolding mark
mark_degree d l = rw (lt-ltb d 1000 l) refl

pub mark_boiler : (d : ℕ) → 1000 ≤ d → mark d ≡ outside
unfolding mark
mark_boiler d l = rw (le-ltb d 1000 l) refl

pub mark_place : (d : ℕ) → Place (mark d)
mark_place d = elim (cases_lt d 1000) [ inl l ↦ inl (omega (arith, mark_degree d l)) | inr g ↦ inr (mark_boiler d g) ]

pub mark_rises : (d e : ℕ) → d < e → e ≤ 1000 → mark d < mark e
mark_rises d e l k = elim (cases_lt e 1000) [ inl g ↦ omega (arith, mark_degree d (omega arith), mark_degree e g) | inr g ↦ omega (arith, mark_degree d (omega arith), mark_boiler e g) ]

pub mark_over : (d : ℕ) → d ≤ 1000 → d ≤ mark d
mark_over d k = elim (cases_lt d 1000) [ inl g ↦ omega (arith, mark_degree d g) | inr g ↦ omega (arith, mark_boiler d g) ]

pub mark_eqb : (d e : ℕ) → d ≤ 1000 → e ≤ 1000 → eqb (mark d) (mark e) ≡ eqb d e
mark_eqb d e k l =
    elim (cases_order d e) [
      | inl q ↦ rw q (eq-eqb (mark e) (mark e) refl ∙ sym (eq-eqb e e refl))
      | inr o ↦ elim o [
        | inl g ↦ let m : mark d < mark e = mark_rises d e g l in ne_eqb (mark d) (mark e) (λ q. omega arith) ∙ sym (ne_eqb d e (λ q. omega arith))
        | inr g ↦ let m : mark e < mark d = mark_rises e d g k in ne_eqb (mark d) (mark e) (λ q. omega arith) ∙ sym (ne_eqb d e (λ q. omega arith))
      ]
    ]
