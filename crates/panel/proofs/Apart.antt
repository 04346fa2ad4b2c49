-- An answer of the step by value, taken apart as the code does it: its next receiver and the answer without it are values of their types. Assumes
-- nothing.
use mathlib.Core.List.{List}
use mir.Val.{Val}
use denote.Laws.{Is}
use denote.Struct.Laws as LL
use Rattle.receiver.specs.declared.Received.{Received}
use Rattle.receiver.specs.contracts.Receiver as T
use Rattle.receiver.proofs.Receiver.TheLaws as T'
use Rattle.receiver.specs.contracts.Received as O
use Rattle.receiver.proofs.Received.TheLaws as O'
use Rattle.panel.specs.declared.Stepped.{Stepped}
use Rattle.panel.specs.contracts.Stepped as N
use Rattle.panel.proofs.Stepped.TheLaws as N'

-- the struct that the code makes of the answer's other fields
abbrev pub made : Received → Stepped
made u = record { refusal = u.refusal; wrong = u.wrong; words = u.words }

module _ (u : Received) (vs : List Val) (is : Is O.the_row u vs) where
  pub receiver-is : Is T.the_row u.receiver (LL.vals T.the_type T'.the_laws u.receiver)
  receiver-is = (LL.owed O.the_type O'.the_laws u vs is).1.1.1.0

  pub made-is : Is N.the_row (made u) (LL.vals N.the_type N'.the_laws (made u))
  made-is = let f = LL.owed O.the_type O'.the_laws u vs is in LL.owes N.the_type N'.the_laws (made u) (f.0, (f.1.0, (f.1.1.0, tt)))
