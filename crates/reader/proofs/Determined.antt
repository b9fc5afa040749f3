-- What a text says follows from the text: any two answers that the contract allows are equal, wherever the same bytes are kept.
use mathlib.Core.Path.{◌≡◌, sym, ◌∙◌, ap}
use contract.Lifetimes.{Lfts}
use denote.Triple.Clauses.{AtExit}
use borrow.Fn.Kinds.{Dens, res_t, ended_of}
use Rattle.basics.proofs.Determined.{Determined}
use Rattle.reader.specs.Reader.{input_of}
use Rattle.reader.proofs.reading.read.Reads as read
use Rattle.reader.proofs.reading.read.Kinds as read_kinds
use Rattle.reader.proofs.reading.MalformedFromBadLine.from.Reads as from_reads
use Rattle.reader.proofs.reading.MalformedFromBadLine.from.Kinds as from_kinds
use Rattle.reader.proofs.reading.RefusalFromMalformed.from.Reads as refusal_reads
use Rattle.reader.proofs.reading.RefusalFromMalformed.from.Kinds as refusal_kinds

-- what a text says, of any two slices that hold the same bytes
pub read_determined : (κs λs : Lfts 1) (a : Dens κs read_kinds.ps) (b : Dens λs read_kinds.ps)
    (x : (res_t read_kinds.r κs).Denot) (y : (res_t read_kinds.r λs).Denot)
    (s : AtExit (ended_of 1 read_kinds.ps read_kinds.r) κs)
    (t : AtExit (ended_of 1 read_kinds.ps read_kinds.r) λs)
    → a.0.now ≡ b.0.now → read.Post κs a x s → read.Post λs b y t → x ≡ y
read_determined κs λs a b x y s t same p q = p ∙ ap input_of same ∙ sym q

-- why a text is malformed, of its bad line
pub from_determined : Determined 0 from_kinds.ps from_kinds.r from_reads.Post
from_determined κs a x y s t p q = p ∙ sym q

-- the refusal of a malformed text
pub refusal_determined : Determined 0 refusal_kinds.ps refusal_kinds.r refusal_reads.Post
refusal_determined κs a x y s t p q = p ∙ sym q
