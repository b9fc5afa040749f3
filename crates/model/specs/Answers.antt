-- The answer's eight fields; document 01's number, place and other of each refusal; and the answer of one that may be refused.
use Rattle.std.specs.Prelude.{Bool, true, false, ℕ, Result, Ok, Err}
use Rattle.model.specs.declared.answers.Answer.{Answer}
use Rattle.model.specs.declared.answers.Refusal.{Refusal}
use Rattle.model.specs.declared.answers.Refusal.TheVariants.{Malformed, BadMesh, BadSettings, BadList, BadNodes, BadTimes, TooLong, LongHyper, ManyPackets, ShortTable, Outside, Collision, Own}

-- a refusal's number in document 01; a caller's own has any
unfoldable pub refusal_number : Refusal → ℕ
refusal_number (Malformed line) = 1
refusal_number BadMesh = 2
refusal_number BadSettings = 3
refusal_number BadList = 4
refusal_number (BadNodes flow) = 5
refusal_number (BadTimes flow) = 6
refusal_number (TooLong flow) = 7
refusal_number LongHyper = 8
refusal_number ManyPackets = 9
refusal_number ShortTable = 10
refusal_number (Outside packet) = 11
refusal_number (Collision packet other) = 12
refusal_number (Own number place) = number

-- a refusal's place: the first bad line, the flow, or the lowest packet; 0 where it names none; a caller's own has any
unfoldable pub refusal_place : Refusal → ℕ
refusal_place (Malformed line) = line
refusal_place BadMesh = 0
refusal_place BadSettings = 0
refusal_place BadList = 0
refusal_place (BadNodes flow) = flow
refusal_place (BadTimes flow) = flow
refusal_place (TooLong flow) = flow
refusal_place LongHyper = 0
refusal_place ManyPackets = 0
refusal_place ShortTable = 0
refusal_place (Outside packet) = packet
refusal_place (Collision packet other) = packet
refusal_place (Own number place) = place

-- a refusal's other: the packet that its packet collides with; 0 elsewhere
unfoldable pub refusal_other : Refusal → ℕ
refusal_other (Malformed line) = 0
refusal_other BadMesh = 0
refusal_other BadSettings = 0
refusal_other BadList = 0
refusal_other (BadNodes flow) = 0
refusal_other (BadTimes flow) = 0
refusal_other (TooLong flow) = 0
refusal_other LongHyper = 0
refusal_other ManyPackets = 0
refusal_other ShortTable = 0
refusal_other (Outside packet) = 0
refusal_other (Collision packet other) = other
refusal_other (Own number place) = 0

-- whether a refusal is a row of document 01's table, and not a caller's own
unfoldable pub in_table : Refusal → Bool
in_table (Own number place) = false
in_table refusal = true

-- the answer of a refusal: its number, place and other; a field not named is 0
unfoldable pub refused_by : Refusal → Answer
refused_by refusal = record {
  number = refusal_number refusal;
  place = refusal_place refusal;
  other = refusal_other refusal;
  hyper = 0;
  packets = 0;
  passes = 0;
  tries = 0;
  skipped = 0;
}

-- the answer that was found, or that of the refusal
abbrev pub answer_by : Result Answer Refusal → Answer
answer_by (Ok answer) = answer
answer_by (Err refusal) = refused_by refusal
