-- The order of transfers: what follows its neighbour stands behind all before it.
use Rattle.std.proofs.Common.{◌≡◌, ℕ, suc, ◌+◌, ◌<◌, Bool, true, false, cond, not, ◌&&◌, eqb, ltb, List, [], ◌∷◌, length, take, Some, None, Decides, Option, refl, inl, inr, add-one, arith}
use Rattle.std.specs.List.{AllByRecursion}
use Rattle.std.proofs.ByRecursion.{All-weaker}
use Rattle.std.proofs.lemmas.Bool.{cases_lt, false≢true}
use Rattle.std.proofs.lemmas.Bool.Decides.{Decides-eqb, Decides-ltb, Decides-like, Decides-not, Decides-and, Decides-or}
use Rattle.streams.specs.Heat.{supply_of, demand_of}
use Rattle.streams.specs.Rules.{streams_in}
use Rattle.targets.specs.Plans.{Feasible}
use Rattle.plans.specs.declared.transfers.Transfer.{Transfer}
use Rattle.plans.specs.Transfers.{outside, plan_of, Place, Proper, Before}
use Rattle.plans.specs.Pieces.{Falling}
use Rattle.plans.proofs.Made.{row, column, down, proper}
use Rattle.judge.specs.Verdicts.{Rises, InOrder, Balanced}
use Rattle.judge.specs.Pieces.{placed, fair, rising, behind_any, follows, disorder}

-- it stands behind the one before it, if there is one
abbrev pub Behind : Option Transfer → Transfer → Type 0
Behind None t = Unit {0}
Behind (Some before) t = Before before t

is_placed : (a : ℕ) → Decides (placed a) (Place a)
is_placed a = Decides-or (ltb a 1000) (eqb a outside) (Decides-ltb a 1000) (Decides-eqb a outside)

is_fair_lem : (t : Transfer) → Decides (fair t) (Proper t)
is_fair_lem t =
    Decides-like (fair t)
    (λ p. record { something = p.0; from_place = p.1.0; to_place = p.1.1.0; apart = λ a b. p.1.1.1 (a, b) })
    (λ p. (p.something, (p.from_place, (p.to_place, λ q. p.apart q.0 q.1))))
    (Decides-and (ltb 0 t.heat) _ (Decides-ltb 0 t.heat)
    (Decides-and (placed t.from) _ (is_placed t.from)
    (Decides-and (placed t.to) _ (is_placed t.to)
    (Decides-not (eqb t.from outside && eqb t.to outside) (Decides-and (eqb t.from outside) _ (Decides-eqb t.from outside) (Decides-eqb t.to outside))))))

is_behind_lem : (o : Option Transfer) (t : Transfer) → Decides (behind_any o t) (Behind o t)
is_behind_lem None t = (λ e. tt, λ b. refl)
is_behind_lem (Some s) t = Decides-or (ltb t.to s.to) _ (Decides-ltb t.to s.to) (Decides-and (eqb t.to s.to) _ (Decides-eqb t.to s.to) (Decides-ltb t.from s.from))

abbrev pub Follows : Option Transfer → Transfer → Type 0
Follows o t = Proper t × ((Rises t → ⊥) × Behind o t)

is_next : (o : Option Transfer) (t : Transfer) → Decides (follows o t) (Follows o t)
is_next o t =
    Decides-and (fair t) _ (is_fair_lem t)
    (Decides-and (not (rising t)) _
    (Decides-not (rising t) (Decides-and (ltb t.to 1000) _ (Decides-ltb t.to 1000) (Decides-ltb t.from t.to)))
    (is_behind_lem o t))

-- all in order, and behind the one before them
abbrev pub Sorted : Option Transfer → List Transfer → Type 0
Sorted o ts = InOrder ts × AllByRecursion (Behind o) ts

lower : (o : Option Transfer) (t u : Transfer) → Behind o t → Before t u → Behind o u
lower None t u b k = tt
lower (Some s) t u (inl l) (inl k) = inl (omega arith)
lower (Some s) t u (inl l) (inr k) = inl (omega arith)
lower (Some s) t u (inr l) (inl k) = inl (omega arith)
lower (Some s) t u (inr l) (inr k) = inr (omega arith, omega arith)

sorted_more : (o : Option Transfer) (t : Transfer) (ts : List Transfer) → Follows o t → Sorted (Some t) ts → Sorted o (t ∷ ts)
sorted_more o t ts f s =
    (record { ordered = (f.0, s.1, s.0.ordered); none_rises = (f.1.0, s.0.none_rises) }, (f.1.1, All-weaker (Before t) (Behind o) (λ u. lower o t u f.1.1) ts s.1))

sorted_less : (o : Option Transfer) (t : Transfer) (ts : List Transfer) → Sorted o (t ∷ ts) → Follows o t × Sorted (Some t) ts
sorted_less o t ts s =
    ((s.0.ordered.0, (s.0.none_rises.0, s.1.0)), (record { ordered = s.0.ordered.2; none_rises = s.0.none_rises.1 }, s.0.ordered.1))

-- the first that is out of order, where i were there already
abbrev pub FirstOut : Option Transfer → ℕ → List Transfer → Option ℕ → Type 0
FirstOut o i ts None = Sorted o ts
FirstOut o i ts (Some k) = (j : ℕ) × (k ≡ i + j) × (j < length ts) × Sorted o (take j ts) × (Sorted o (take (suc j) ts) → ⊥)

out_more : (o : Option Transfer) (i : ℕ) (t : Transfer) (ts : List Transfer) (r : Bool) (out : Option ℕ) → Decides r (Follows o t) → FirstOut (Some t) (i + 1) ts out →
    FirstOut o i (t ∷ ts) (cond r out (Some i))
out_more o i t ts true None d f = sorted_more o t ts (d.0 refl) f
out_more o i t ts true (Some k) d f =
    (suc f.0, omega (arith, f.1), omega (arith, f.2), sorted_more o t (take f.0 ts) (d.0 refl) f.3, λ s. f.4 (sorted_less o t (take (suc f.0) ts) s).1)
out_more o i t ts false out d f =
    (0, omega arith, omega arith, (record { ordered = tt; none_rises = tt }, tt), λ s. false≢true (d.1 (sorted_less o t [] s).0))

first_out : (o : Option Transfer) (i : ℕ) (ts : List Transfer) → FirstOut o i ts (disorder o i ts)
unfolding disorder
first_out o i [] = (record { ordered = tt; none_rises = tt }, tt)
first_out o i (t ∷ ts) = out_more o i t ts (follows o t) (disorder (Some t) (i + 1) ts) (is_next o t) (first_out (Some t) (i + 1) ts)

sorted : (ts : List Transfer) → InOrder ts → Sorted None ts
sorted ts o = (o, All-weaker Proper (Behind None) (λ t p. tt) ts (proper ts o.ordered))

pub none_out : (ts : List Transfer) → disorder None 0 ts ≡ None → InOrder ts
none_out ts e = (rw e at (first_out None 0 ts)).0

pub some_out : (ts : List Transfer) (i : ℕ) → disorder None 0 ts ≡ Some i → (i < length ts) × InOrder (take i ts) × (InOrder (take (i + 1) ts) → ⊥)
some_out ts i e =
    let f : FirstOut None 0 ts (Some i) = rw e at (first_out None 0 ts) in
    let q : i ≡ f.0 = omega (arith, f.1) in
    rw (add-one, q) (f.2, f.3.0, λ o. f.4 (sorted _ o))

falling : (ts : List Transfer) → AllByRecursion Proper ts → AllByRecursion (λ t. Rises t → ⊥) ts → AllByRecursion Falling ts
falling [] p n = tt
falling (t ∷ ts) p n = (
  elim p.0.to_place [
    | inl l ↦ elim (cases_lt t.from t.to) [ inl r ↦ absurd (n.0 (l, r)) | inr g ↦ inl g ]
    | inr e ↦ inr e
  ],
  falling ts p.1 n.1,
)

-- in order and all degrees in balance: a feasible plan
pub feasible : (xs : List ℕ) (gap : ℕ) (ts : List Transfer) → InOrder ts → ((k : ℕ) → k < 1000 → Balanced xs gap ts k) →
    Feasible 1000 (supply_of (streams_in xs)) (demand_of gap (streams_in xs)) (plan_of ts)
unfolding plan_of
feasible xs gap ts o b =
    let p : AllByRecursion Proper ts = proper ts o.ordered in
    record {
      gives = λ d l. omega (arith, row ts d p, (b d l).gives);
      gets = λ e l. omega (arith, column ts e p, (b e l).gets);
      down = λ d e dl el l. down ts d e (falling ts p o.none_rises) l el;
    }
