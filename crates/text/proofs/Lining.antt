-- A text, one line at a time.
use Rattle.std.proofs.Common.{◌≡◌, ℕ, ◌+◌, List, [], ◌∷◌, Some, None, Ok, Err, refl, ap, ◌∙◌, sym, Option}
use Rattle.lexing.specs.Lexing.{lines, words, uncommented}
use Rattle.grammar.specs.declared.statements.Statement.{Statement}
use Rattle.grammar.specs.Statements.{statement}
use Rattle.text.specs.declared.problem.Problem.{Problem}
use Rattle.text.specs.declared.turned.Turned.{Turned}
use Rattle.text.specs.declared.turned.Turned.TheVariants.{Unreadable, Refused, NoMemory}
use Rattle.text.specs.Asked.{Asked, after, asked_from, asked_in, nothing_asked, asked_by, Noted, Read}

pub asked_start : (text : List ℕ) → asked_in text ≡ asked_from nothing_asked 0 (lines text)
unfolding asked_in
asked_start text = refl

pub asked_end : (a : Asked) (i : ℕ) → asked_from a i [] ≡ Ok a
unfolding asked_from
asked_end a i = refl

module _ (a : Asked) (i : ℕ) (l : List ℕ) (ls : List (List ℕ)) where
  -- a line that can't be read
  pub line_unread : statement (words (uncommented l)) ≡ None → asked_from a i (l ∷ ls) ≡ Err i
  unfolding asked_from
  line_unread e = rw e refl

  module _ (said : Option Statement) (e : statement (words (uncommented l)) ≡ Some said) where
    -- one that asks what was asked
    pub line_refused : after i a said ≡ None → asked_from a i (l ∷ ls) ≡ Err i
    unfolding asked_from
    line_refused q = rw (e, q) refl

    -- and one that is noted
    pub line_noted : (b : Asked) → after i a said ≡ Some b → asked_from a i (l ∷ ls) ≡ asked_from b (i + 1) ls
    unfolding asked_from
    line_noted b q = rw (e, q) refl

-- a line that is not noted ends the reading
pub not_noted : (text : List ℕ) (p : Problem) (said : Option Statement) (place : ℕ) (e : Turned) (q : Problem) → Noted p said place (Err e) q → (after place (asked_by p) said ≡ None → asked_in text ≡ Err place) → Read text (Err e)
not_noted text p said place (Unreadable i f) q n r = r n.0 ∙ ap Err (sym n.1)
not_noted text p said place (Refused e i l) q n r = n
not_noted text p said place NoMemory q n r = tt

-- all that reading a text cites
pub ruleset one_line = (asked_start, asked_end, line_unread, line_refused, line_noted, not_noted)
