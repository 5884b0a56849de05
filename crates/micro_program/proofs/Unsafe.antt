-- Programs that aren't safe: what the promise refuses, shown by one run each.
use Rattle.std.proofs.Common.{◌≡◌, ℕ, ◌≤◌, true, false, List, [], ◌∷◌, Some, None, refl, sym, subst, arith}
use Rattle.std.proofs.lemmas.List.{length-replicate}
use Rattle.nand_geometry.specs.Limits.{width, InLimits}
use Rattle.onfi_cycle.specs.declared.item.Kind.TheVariants.{Cmd, Adr, Dout}
use Rattle.onfi_cycle.specs.declared.item.Item.{Item}
use Rattle.onfi_cycle.specs.declared.forbidden.Forbidden.TheVariants.{CommandUnknown}
use Rattle.onfi_cycle.specs.Command.{command}
use Rattle.onfi_cycle.specs.Rules.{breaks_not_there, breaks_command_unknown}
use Rattle.onfi_cycle.specs.Lun.{effect_among}
use Rattle.onfi_cycle.specs.Channel.{IsChannel, cycle}
use Rattle.micro_word.specs.declared.word.Word.{Word}
use Rattle.micro_word.specs.declared.word.Word.TheVariants.{End, Command, Address, Get, Wait, Yield}
use Rattle.micro_word.specs.Text.{Microprogram}
use Rattle.micro_program.specs.Lines.{Line, unrolling, unrolled}
use Rattle.micro_program.specs.Moves.{Move, Give}
use Rattle.micro_program.specs.Program.{Job, Done, Nothing, Polled}
use Rattle.micro_program.specs.Step.{Stride, Went}
use Rattle.micro_program.specs.Safe.{Seat, Reaches, starts, steps, loaded, after_step, may_step, MovesAreOwn, IsFine}
use Rattle.micro_program.specs.Unsafe.{one_lun, text, erase_then, IsUnsafe, SomeAreUnsafe, TruthIsNeeded}
use Rattle.micro_program.proofs.Runs.{on, job, line}

limits : InLimits one_lun
unfolding width
limits =
    record {
      page_bytes_least = omega arith;
      page_bytes_most = omega arith;
      spare_bytes_most = omega arith;
      pages_least = omega arith;
      pages_most = omega arith;
      blocks_least = omega arith;
      blocks_most = omega arith;
      luns_least = omega arith;
      luns_most = omega arith;
      row_bits_most = omega arith;
      plane_bits_most = omega arith;
      planes_most = omega arith;
      several_enhanced = λ h. absurd (omega arith);
    }

-- the channel of one LUN of the small chip is one
pub is_channel : IsChannel (on one_lun)
is_channel = record { limits = limits; parameters = length-replicate {A = ℕ} 768 0; pages = λ l p. length-replicate {A = ℕ} 528 0xff }

abbrev job_of : Microprogram → Job
job_of t = job one_lun 0 0 t []

-- a seat that the job reaches, at which its next step isn't fine
refused : (budget : ℕ) (words : List Word) (seat : Seat) → Reaches (on one_lun) (job_of (text budget words)) seat → may_step (job_of (text budget words)) seat ≡ true → (IsFine (on one_lun) (job_of (text budget words)) seat → ⊥) → IsUnsafe budget words
refused budget words seat reaches may bad safe =
    bad (safe (on one_lun) (job_of (text budget words)) (record { is_channel = is_channel; of_channel = refl; of_geometry = refl; of_text = refl; there = refl; made = record { rows = omega arith; buffer = refl; cache = λ h. refl } }) seat reaches may)

-- at the beginning, on a fresh channel
fresh : (t : Microprogram) → Reaches (on one_lun) (job_of t) (loaded (job_of t) [])
fresh t = starts [] refl (record { ready = refl; no_cache = refl; no_program = refl; no_queue = refl; free = refl })

-- no word at all
no_end_is_unsafe : IsUnsafe 0 []
unfolding unrolled
no_end_is_unsafe = refused 0 [] (loaded (job_of (text 0 [])) []) (fresh (text 0 [])) refl (λ f. f)

-- a `get` past the buffer
get_past_the_buffer_is_unsafe : IsUnsafe 1 (Get 1 ∷ (End 0 ∷ []))
unfolding unrolled
get_past_the_buffer_is_unsafe = refused 1 (Get 1 ∷ (End 0 ∷ [])) (loaded (job_of (text 1 (Get 1 ∷ (End 0 ∷ [])))) []) (fresh (text 1 (Get 1 ∷ (End 0 ∷ [])))) refl (λ f. let bad : false ≡ true = f.inside in cc)

-- the beginning of an erase, word by word
abbrev after_60 : List Item
after_60 = cycle 0 Cmd 0x60 ∷ []

abbrev after_row : List Item
after_row = cycle 0 Adr 0 ∷ (cycle 0 Adr 0 ∷ (cycle 0 Adr 0 ∷ after_60))

abbrev done_60 : List Done
done_60 = record { word = Command 0x60; answer = Nothing } ∷ []

abbrev done_row : List Done
done_row = record { word = Address 2 3; answer = Nothing } ∷ done_60

abbrev done_d0 : List Done
done_d0 = record { word = Command 0xd0; answer = Nothing } ∷ done_row

abbrev ahead_d0 : List Word → List Line
ahead_d0 rest = line 2 (Command 0xd0) ∷ (unrolling rest 3).lines

abbrev stride_60 : List Word → Stride
stride_60 rest = record { past = after_60; ahead = line 1 (Address 2 3) ∷ ahead_d0 rest; done = done_60; code = None; outcome = Went }

abbrev stride_row : List Word → Stride
stride_row rest = record { past = after_row; ahead = ahead_d0 rest; done = done_row; code = None; outcome = Went }

abbrev stride_d0 : List Word → Stride
stride_d0 rest = record { past = cycle 0 Cmd 0xd0 ∷ after_row; ahead = (unrolling rest 3).lines; done = done_d0; code = None; outcome = Went }

at_row : (budget : ℕ) (rest : List Word) → Reaches (on one_lun) (job_of (text budget (erase_then rest))) (after_step (stride_row rest))
unfolding unrolled width
at_row budget rest =
    steps (after_step (stride_60 rest)) [] (stride_row rest)
    (steps (loaded (job_of (text budget (erase_then rest))) []) [] (stride_60 rest) (fresh (text budget (erase_then rest))) refl refl (λ h. cc) refl)
    refl refl (λ h. cc) refl

at_d0 : (budget : ℕ) (rest : List Word) → Reaches (on one_lun) (job_of (text budget (erase_then rest))) (after_step (stride_d0 rest))
at_d0 budget rest = steps (after_step (stride_row rest)) [] (stride_d0 rest) (at_row budget rest) refl refl (λ h. cc) refl

-- an erase whose budget is one short
budget_one_short_is_unsafe : IsUnsafe 4 (erase_then (Wait ∷ (End 0 ∷ [])))
budget_one_short_is_unsafe =
    refused 4 (erase_then (Wait ∷ (End 0 ∷ []))) (after_step (stride_row (Wait ∷ (End 0 ∷ [])))) (at_row 4 (Wait ∷ (End 0 ∷ []))) refl
    (λ f. let over : 5 ≤ 4 = f.budget in absurd (omega arith))

-- an erase that doesn't wait
end_while_busy_is_unsafe : IsUnsafe 5 (erase_then (End 0 ∷ []))
unfolding command width effect_among
end_while_busy_is_unsafe =
    refused 5 (erase_then (End 0 ∷ [])) (after_step (stride_d0 (End 0 ∷ []))) (at_d0 5 (End 0 ∷ [])) refl
    (λ f. let busy : true ≡ false = (f.idle refl).ready in cc)

-- a byte that is no command
unknown_command_is_unsafe : IsUnsafe 1 (Command 0x42 ∷ (End 0 ∷ []))
unfolding unrolled command breaks_not_there breaks_command_unknown
unknown_command_is_unsafe =
    refused 1 (Command 0x42 ∷ (End 0 ∷ [])) (loaded (job_of (text 1 (Command 0x42 ∷ (End 0 ∷ [])))) []) (fresh (text 1 (Command 0x42 ∷ (End 0 ∷ [])))) refl
    (λ f. let same : (Give Cmd 0x42 ∷ []) ≡ f.moved = let both : Some (Give Cmd 0x42 ∷ []) ≡ Some f.moved = f.is_moved in cc in
    let own : MovesAreOwn (on one_lun) (record { ce = 0; lun = 0 }) (Give Cmd 0x42 ∷ []) [] = subst (λ (m : List Move). MovesAreOwn (on one_lun) (record { ce = 0; lun = 0 }) m []) (sym same) f.own in
    let bad : Some CommandUnknown ≡ None = own.0.permitted in
    cc)

abbrev stride_lone : Stride
stride_lone = record { past = after_60; ahead = line 1 Yield ∷ (line 2 (End 0) ∷ []); done = done_60; code = None; outcome = Went }

-- a `yield` in the midst of a sequence
yield_in_a_sequence_is_unsafe : IsUnsafe 1 (Command 0x60 ∷ (Yield ∷ (End 0 ∷ [])))
unfolding unrolled command
yield_in_a_sequence_is_unsafe =
    refused 1 (Command 0x60 ∷ (Yield ∷ (End 0 ∷ []))) (after_step stride_lone)
    (steps (loaded (job_of (text 1 (Command 0x60 ∷ (Yield ∷ (End 0 ∷ []))))) []) [] stride_lone (fresh (text 1 (Command 0x60 ∷ (Yield ∷ (End 0 ∷ []))))) refl refl (λ h. cc) refl) refl
    (λ f. let open_there : true ≡ false = f.closed refl in cc)

pub some_are_unsafe : SomeAreUnsafe
some_are_unsafe =
    record {
      no_end = no_end_is_unsafe;
      get_past_the_buffer = get_past_the_buffer_is_unsafe;
      unknown_command = unknown_command_is_unsafe;
      yield_in_a_sequence = yield_in_a_sequence_is_unsafe;
      budget_one_short = budget_one_short_is_unsafe;
      end_while_busy = end_while_busy_is_unsafe;
    }

-- an erase whose `wait` is told ready while its LUN is busy
abbrev after_lie : List Item
after_lie = cycle 0 Dout 0xe0 ∷ (cycle 0 Cmd 0x70 ∷ (cycle 0 Cmd 0xd0 ∷ after_row))

abbrev stride_lie : Stride
stride_lie = record { past = after_lie; ahead = line 4 (End 0) ∷ []; done = record { word = Wait; answer = Polled 0xe0 } ∷ done_d0; code = None; outcome = Went }

pub truth_is_needed : TruthIsNeeded
unfolding command width effect_among
truth_is_needed =
    record {
      s = on one_lun;
      j = job_of (text 5 (erase_then (Wait ∷ (End 0 ∷ []))));
      of = record { is_channel = is_channel; of_channel = refl; of_geometry = refl; of_text = refl; there = refl; made = record { rows = omega arith; buffer = refl; cache = λ h. refl } };
      seat = after_step (stride_d0 (Wait ∷ (End 0 ∷ [])));
      reach = at_d0 5 (Wait ∷ (End 0 ∷ []));
      may = refl;
      r = stride_lie;
      is_r = refl;
      goes_on = refl;
      unfit = λ f. let busy : true ≡ false = (f.idle refl).ready in cc;
    }
