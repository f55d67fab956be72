-- What the two looks at a plan find, put together.
use Rattle.std.proofs.Common.{◌≡◌, ℕ, List, Ok, Err, Result, subst, arith}
use Rattle.streams.specs.declared.model.Stream.{Stream}
use Rattle.streams.specs.Rules.{streams_in}
use Rattle.plans.specs.declared.transfers.Transfer.{Transfer}
use Rattle.judge.specs.declared.flaws.Flaw.{Flaw}
use Rattle.judge.specs.declared.flaws.Flaw.TheVariants.{Unfit, OutOfOrder, Unbalanced}
use Rattle.judge.specs.Verdicts.{advised, Fit, InOrder, Balanced, Judged}
use Rattle.judge.specs.Pieces.{OrderJudged, BalancedFor, BalanceJudged}
use Rattle.judge.proofs.Reading.{advised_count}
use Rattle.judge.proofs.Sorting.{feasible}

out_of_order : (xs : List ℕ) (gap : ℕ) (room : List ℕ) (n : ℕ) (e : Flaw) → Fit xs room n → OrderJudged (advised room n) (Err e) → Judged xs gap room n (Err e)
out_of_order xs gap room n Unfit fit j = absurd j
out_of_order xs gap room n (OutOfOrder i) fit j = (fit, omega (arith, j.0, advised_count room n fit.fits), j.1, j.2)
out_of_order xs gap room n (Unbalanced d) fit j = absurd j

pub not_in_order : (xs : List ℕ) (gap : ℕ) (room : List ℕ) (n : ℕ) (ts : List Transfer) (e : Flaw) → Fit xs room n → ts ≡ advised room n → OrderJudged ts (Err e) → Judged xs gap room n (Err e)
not_in_order xs gap room n ts e fit same j = out_of_order xs gap room n e fit (subst (λ (us : List Transfer). OrderJudged us (Err e)) same j)

balanced : (xs : List ℕ) (gap : ℕ) (ts : List Transfer) (d : ℕ) → BalancedFor (streams_in xs) gap ts d → Balanced xs gap ts d
balanced xs gap ts d b = record { gives = b.gives; gets = b.gets }

by_balance : (xs : List ℕ) (gap : ℕ) (room : List ℕ) (n : ℕ) (r : Result (Unit {0}) Flaw) → Fit xs room n → InOrder (advised room n) →
    BalanceJudged (streams_in xs) gap (advised room n) r → Judged xs gap room n r
by_balance xs gap room n (Ok u) fit o j = (fit, o.ordered, feasible xs gap (advised room n) o (λ k l. balanced xs gap (advised room n) k (j k l)))
by_balance xs gap room n (Err Unfit) fit o j = absurd j
by_balance xs gap room n (Err (OutOfOrder i)) fit o j = absurd j
by_balance xs gap room n (Err (Unbalanced d)) fit o j =
    (fit, o, j.0, λ k l u. balanced xs gap (advised room n) k (j.1 k l u), λ b. j.2 (record { gives = b.gives; gets = b.gets }))

pub in_order : (xs : List ℕ) (gap : ℕ) (room : List ℕ) (n : ℕ) (ss : List Stream) (g : ℕ) (ts : List Transfer) (r : Result (Unit {0}) Flaw) → Fit xs room n →
    ss ≡ streams_in xs → g ≡ gap → ts ≡ advised room n → InOrder ts → BalanceJudged ss g ts r → Judged xs gap room n r
in_order xs gap room n ss g ts r fit streams same plan o j =
    let a = subst (λ (us : List Stream). BalanceJudged us g ts r) streams j in
    let b = subst (λ (k : ℕ). BalanceJudged (streams_in xs) k ts r) same a in
    by_balance xs gap room n r fit (subst InOrder plan o) (subst (λ (us : List Transfer). BalanceJudged (streams_in xs) gap us r) plan b)
