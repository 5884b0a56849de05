-- A word with a reason against it by what was claimed before it; the last word of a text, where nothing is known before it.
use Rattle.std.proofs.Common.{◌≡◌, ℕ, ◌-◌, true, List, Option, Some, None, refl, ap, ◌∙◌, length, slice_get}
use Rattle.nand_geometry.specs.declared.parts.Parts.{Parts}
use Rattle.micro_word.specs.declared.word.Word.{Word}
use Rattle.micro_word.specs.declared.word.Word.TheVariants.{End}
use Rattle.micro_program.specs.Safe.{is_end}
use Rattle.micro_claims.specs.declared.refusal.Reason.{Reason}
use Rattle.micro_claims.specs.declared.refusal.Reason.TheVariants.{EndsTooSoon}
use Rattle.micro_claims.specs.declared.state.State.{State}
use Rattle.micro_claims.specs.declared.bounds.Bounds.{Bounds}
use Rattle.micro_claims.specs.State.{first_state}
use Rattle.micro_claims.specs.Reasons.{reason_against, breaks_cycle_forbidden, breaks_address_unaligned, breaks_handover_in_sequence, breaks_buffer_passed, breaks_row_or_plane_outside, breaks_column_too_large, breaks_no_status, breaks_ends_too_soon}
use Rattle.micro_walk.specs.Shape.{is_end_there, ends}
use Rattle.micro_walk.specs.Faults.{reason_at}
use Rattle.micro_walk.specs.Verdicts.{IsOfWord}

-- the LUN may be busy
busy : State
busy = record first_state { lun = record first_state.lun { busy = true } }

too_soon : (g : Parts) (b : Bounds) (code : ℕ) → reason_against g b busy (End code) ≡ Some EndsTooSoon
unfolding reason_against breaks_cycle_forbidden breaks_address_unaligned breaks_handover_in_sequence breaks_buffer_passed breaks_row_or_plane_outside breaks_column_too_large breaks_no_status breaks_ends_too_soon busy
too_soon g b code = refl

end_is : (word : Word) → is_end word ≡ true → (code : ℕ) × (word ≡ End code)
end_is (End code) h = (code, refl)
end_is _ h = absurd cc

-- an `end` comes too soon there
pub end_against : (g : Parts) (b : Bounds) (words : List Word) → ends words ≡ true → IsOfWord g b words (record { word = length words - 1; reason = EndsTooSoon })
end_against g b words h = at (slice_get words (length words - 1)) refl h
  where
    at : (o : Option Word) → slice_get words (length words - 1) ≡ o → is_end_there o ≡ true → IsOfWord g b words (record { word = length words - 1; reason = EndsTooSoon })
    at None e h = absurd cc
    at (Some word) e h =
        let end = end_is word h in
        record { word = End end.0; there = e ∙ ap Some end.1; claimed = busy; against = too_soon g b end.0 }

-- the reason that a claim gives against the word at a place
pub found_against : (g : Parts) (b : Bounds) (words : List Word) (claimed : Option State) (word : Word) (at : ℕ) (reason : Reason) → slice_get words at ≡ Some word → reason_at g b claimed word ≡ Some reason → IsOfWord g b words (record { word = at; reason = reason })
found_against g b words None word at reason there e = absurd cc
found_against g b words (Some s) word at reason there e = record { word = word; there = there; claimed = s; against = e }
