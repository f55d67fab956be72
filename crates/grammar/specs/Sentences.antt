-- What is said of a line that can't be read.
use Rattle.std.specs.Prelude.{ℕ, List, ◌++◌, codes}
use Rattle.grammar.specs.declared.statements.LineFault.{LineFault}
use Rattle.grammar.specs.declared.statements.LineFault.TheVariants.{UnknownWord, NumberMissing, NotANumber, WordTooMany, SecondGap, SecondPlan}
use Rattle.grammar.specs.Shown.{shown}

-- the sentence that is said behind the line's number, with the line's own word as it is shown
abbrev pub sentence : LineFault → List ℕ
sentence (UnknownWord word) = codes "begins with '" ++ (shown word.now ++ codes "', and a line begins with hot, cold, gap or plan")
sentence NumberMissing = codes "ends too early: hot and cold are followed by three whole numbers, gap by one"
sentence (NotANumber word) = codes "has '" ++ (shown word.now ++ codes "' where a whole number below 4294967296 is wanted")
sentence (WordTooMany word) = codes "goes on with '" ++ (shown word.now ++ codes "', where nothing more is wanted")
sentence SecondGap = codes "gives the gap a second time, and once is enough"
sentence SecondPlan = codes "asks for the plan a second time, and once is enough"
