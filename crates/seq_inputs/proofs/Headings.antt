-- The microprogram of a text whose header is counted.
use Rattle.std.proofs.Common.{◌≡◌, List, ℕ}
use Rattle.micro_word.specs.Text.{Microprogram}
use Rattle.micro_asm.specs.Reading.{Spells}
use Rattle.seq_inputs.specs.Headed.{with_header, HasWordsOf}

pub counted : (text : List ℕ) (x y : Microprogram) → Spells (with_header text) x → y.words ≡ x.words → HasWordsOf text y
counted text x y spelled same = record { x = x; spelled = spelled; same_words = same }
