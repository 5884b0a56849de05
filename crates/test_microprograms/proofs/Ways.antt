-- Where the worked texts lead.
use Rattle.std.proofs.Common.{◌≡◌, ℕ, zero, suc, ◌≤◌, [], ◌∷◌, Some, refl, subst, arith, length, drop}
use Rattle.std.specs.List.{slice_get}
use Rattle.micro_word.specs.declared.word.Word.{Word}
use Rattle.micro_word.specs.declared.word.Word.TheVariants.{End, ReadStatus, Loop, Next}
use Rattle.micro_program.specs.Lines.{unrolling, unrolled}
use Rattle.micro_program.specs.Places.{from_word, FitsAt, IsShaped}
use Rattle.test_microprograms.specs.Ways.{nested, WorkedWays}

same : (a b : Word) → Some a ≡ Some b → a ≡ b
same a b h = cc

nothing_there : (at from : ℕ) → length (unrolling (drop at []) from).outer ≤ 4
nothing_there zero from = omega arith
nothing_there (suc at) from = omega arith

nested_depth : (at : ℕ) → length (from_word nested at).outer ≤ 4
nested_depth zero = omega arith
nested_depth (suc zero) = omega arith
nested_depth (suc (suc zero)) = omega arith
nested_depth (suc (suc (suc zero))) = omega arith
nested_depth (suc (suc (suc (suc zero)))) = omega arith
nested_depth (suc (suc (suc (suc (suc zero))))) = omega arith
nested_depth (suc (suc (suc (suc (suc (suc zero)))))) = omega arith
nested_depth (suc (suc (suc (suc (suc (suc (suc at))))))) = nothing_there at (suc (suc (suc (suc (suc (suc (suc at)))))))

nested_fits : (at : ℕ) (word : Word) → slice_get nested at ≡ Some word → FitsAt nested at word
nested_fits zero word h = subst (FitsAt nested 0) (same (Loop 2) word h) (record { some = omega arith; most = omega arith; ends = omega arith })
nested_fits (suc zero) word h = subst (FitsAt nested 1) (same ReadStatus word h) tt
nested_fits (suc (suc zero)) word h = subst (FitsAt nested 2) (same (Loop 3) word h) (record { some = omega arith; most = omega arith; ends = omega arith })
nested_fits (suc (suc (suc zero))) word h = subst (FitsAt nested 3) (same ReadStatus word h) tt
nested_fits (suc (suc (suc (suc zero)))) word h = subst (FitsAt nested 4) (same Next word h) tt
nested_fits (suc (suc (suc (suc (suc zero))))) word h = subst (FitsAt nested 5) (same Next word h) tt
nested_fits (suc (suc (suc (suc (suc (suc zero)))))) word h = subst (FitsAt nested 6) (same (End 0) word h) tt
nested_fits (suc (suc (suc (suc (suc (suc (suc at))))))) word h = absurd cc

nested_shaped : IsShaped nested
nested_shaped = record { paired = refl; depth = nested_depth; fits = nested_fits }

pub worked : WorkedWays
unfolding unrolled
worked = record { nested_lines = refl; nested_way = refl; nested_is_shaped = nested_shaped; taken = refl; passed = refl; jumped = refl }
