use Rattle.text_parts.proofs.Parts.{word_reads}
use Rattle.text_parts.proofs.Numbers.{number_reads, signed_reads}
use Rattle.text_parts.proofs.laws_of_readings.Goals as goal

pub returns : goal.returns
returns c = record { words = word_reads; numbers = number_reads; signed_numbers = signed_reads }
