-- What moves make of the trace of a channel.
use Rattle.std.specs.Prelude.{ℕ, List, [], ◌∷◌, Option, Some, None}
use Rattle.onfi_cycle.specs.declared.item.Kind.TheVariants.{Dout}
use Rattle.onfi_cycle.specs.declared.item.Item.{Item}
use Rattle.onfi_cycle.specs.Channel.{Channel, cycle, bus_byte}
use Rattle.micro_program.specs.Moves.{Move, Give, Take, and_then}

-- the trace after some moves, and the bytes that they took
pub record Played : Type 0 where
  pub past : List Item
  pub bytes : List ℕ

abbrev pub with_byte : ℕ → Played → Option Played
with_byte byte p = Some (record { past = p.past; bytes = byte ∷ p.bytes })

-- the moves on a target after a past, whose outputs give these bytes, one after the other; nothing where these are fewer or more
abbrev pub answered : ℕ → List Move → List ℕ → List Item → Option Played
answered ce [] [] past = Some (record { past = past; bytes = [] })
answered ce [] (byte ∷ bytes) past = None
answered ce (Give kind byte ∷ rest) bytes past = answered ce rest bytes (cycle ce kind byte ∷ past)
answered ce (Take ∷ rest) [] past = None
answered ce (Take ∷ rest) (byte ∷ bytes) past = and_then (answered ce rest bytes (cycle ce Dout byte ∷ past)) (with_byte byte)

-- the same on a model: each output carries the byte that the one driver shows, and there must be one
abbrev pub played : Channel → ℕ → List Move → List Item → Option Played
played s ce [] past = Some (record { past = past; bytes = [] })
played s ce (Give kind byte ∷ rest) past = played s ce rest (cycle ce kind byte ∷ past)
played s ce (Take ∷ rest) past =
    and_then (bus_byte s past ce) (λ byte. and_then (played s ce rest (cycle ce Dout byte ∷ past)) (with_byte byte))
