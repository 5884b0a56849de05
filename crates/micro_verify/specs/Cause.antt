-- The cause of a refusal: what stands behind the lazy run of the words before.
use Rattle.std.specs.Prelude.{◌≡◌, ℕ, ◌+◌, ◌*◌, ◌/◌, ◌<◌, ◌≤◌, ◌==◌, Bool, true, false, ◌&&◌, ◌||◌, not, nat_lt, nat_le, if◌then◌else◌, List, [], ◌∷◌, ◌++◌, Option, Some, None, take, slice_get, length}
use Rattle.nand_geometry.specs.declared.parts.Parts.{Parts}
use Rattle.nand_geometry.specs.Limits.{InLimits, planes, indices}
use Rattle.nand_geometry.specs.Optional.{is_wide}
use Rattle.onfi_cycle.specs.declared.command.Command.{Command}
use Rattle.onfi_cycle.specs.declared.command.Command.TheVariants.{ReadCacheSequential}
use Rattle.onfi_cycle.specs.declared.data_phase.DataPhase.{DataPhase}
use Rattle.onfi_cycle.specs.declared.data_phase.DataPhase.TheVariants.{FirstColumn, SecondColumn}
use Rattle.onfi_cycle.specs.declared.forbidden.Forbidden.{Forbidden}
use Rattle.onfi_cycle.specs.declared.forbidden.Forbidden.TheVariants.{SequenceOpen, NoColumnToChange, CommandMisplaced, AddressMisplaced, LunBusy, QueueClash, InputMisplaced, NoSoleDriver, DataNotReady, ColumnOutside, CacheReadMisplaced}
use Rattle.onfi_cycle.specs.declared.item.Item.{Item}
use Rattle.onfi_cycle.specs.declared.opening.Opening.{Opening}
use Rattle.onfi_cycle.specs.declared.page_address.PageAddress.{PageAddress}
use Rattle.onfi_cycle.specs.declared.tail_facts.TailFacts.{TailFacts}
use Rattle.onfi_cycle.specs.declared.target_cycle.TargetCycle.TheVariants.{CommandCycle}
use Rattle.onfi_cycle.specs.Base.{is_of_base}
use Rattle.onfi_cycle.specs.Command.{command, address_cycles, reads_identity, wants_one_lun}
use Rattle.onfi_cycle.specs.Sequence.{tail, facts_of, is_open, opened, wants_second_column}
use Rattle.onfi_cycle.specs.Lun.{is_busy, is_caching, queue, array_page}
use Rattle.onfi_cycle.specs.Rules.{has_some, breaks_command_unknown}
use Rattle.onfi_cycle.specs.Permitted.{broken, is_legal}
use Rattle.onfi_cycle.specs.Channel.{Channel}
use Rattle.micro_word.specs.declared.format.Format.{Format}
use Rattle.micro_word.specs.declared.word.Word.{Word}
use Rattle.micro_word.specs.declared.word.Word.TheVariants.{End, Command as CommandWord, Address, Put, Column, RowAdd, Row, Plane, Wait, Yield}
use Rattle.micro_word.specs.Text.{Microprogram}
use Rattle.micro_word.specs.Word.{IsInRange}
use Rattle.micro_claims.specs.declared.refusal.Fault.{Fault}
use Rattle.micro_claims.specs.declared.refusal.Reason.{Reason}
use Rattle.micro_claims.specs.declared.refusal.Reason.TheVariants.{CycleForbidden, AddressUnaligned, HandoverInSequence, BufferPassed, RowOrPlaneOutside, ColumnTooLarge, EndsTooSoon, OverBudget, CommandNotAllowed}
use Rattle.micro_program.specs.Lines.{all_lead_on}
use Rattle.micro_program.specs.Program.{Job, plane_now, index_now, place_now, cost, cost_now, fits}
use Rattle.micro_program.specs.Moves.{Move, moves}
use Rattle.micro_program.specs.Played.{Played, played}
use Rattle.micro_program.specs.Safe.{is_end}
use Rattle.micro_walk.specs.Verdicts.{is_of_shape}
use Rattle.micro_walk.specs.Faults.{fault_of}
use Rattle.micro_claims.specs.Against.{first_address, asks_status}
use Rattle.micro_verify.specs.Lazy.{the_lun, lone_channel, lone_job, Run, lazy, item_of}

-- ---- rules

-- the rules of V7, and that of V12
abbrev pub is_of_cycle_forbidden : Forbidden → Bool
is_of_cycle_forbidden SequenceOpen = true
is_of_cycle_forbidden NoColumnToChange = true
is_of_cycle_forbidden CommandMisplaced = true
is_of_cycle_forbidden AddressMisplaced = true
is_of_cycle_forbidden LunBusy = true
is_of_cycle_forbidden QueueClash = true
is_of_cycle_forbidden InputMisplaced = true
is_of_cycle_forbidden NoSoleDriver = true
is_of_cycle_forbidden DataNotReady = true
is_of_cycle_forbidden CacheReadMisplaced = true
is_of_cycle_forbidden _ = false

abbrev pub is_of_column_too_large : Forbidden → Bool
is_of_column_too_large ColumnOutside = true
is_of_column_too_large _ = false

-- some first moves, or none, are permitted, and the next is forbidden by a rule of this sort
pub record Stops (s : Channel) (moved : List Move) (past : List Item) (sort : Forbidden → Bool) : Type 0 where
  pub first : List Move
  pub next : Move
  pub rest : List Move
  pub parts : moved ≡ first ++ (next ∷ rest)
  pub p : Played
  pub plays : played s 0 first past ≡ Some p
  pub legal : is_legal s.geometry s.targets p.past ≡ true
  pub rule : Forbidden
  pub breaks : broken s.geometry s.targets p.past (item_of next) ≡ Some rule
  pub sorted : sort rule ≡ true

-- ---- tests of the run

abbrev pub tail_now : Run → TailFacts
tail_now r = facts_of (tail r.past 0)

abbrev pub place_of_phase : DataPhase → Option ℕ
place_of_phase FirstColumn = Some 0
place_of_phase SecondColumn = Some 1
place_of_phase _ = None

-- which of C1 C2 R1 R2 R3 the tail wants, where it wants an address
abbrev pub place_wanted : Option Opening → DataPhase → Option ℕ
place_wanted None phase = place_of_phase phase
place_wanted (Some o) phase = if nat_lt o.addresses (address_cycles o.opener) then Some (first_address o.opener + o.addresses) else place_of_phase phase

abbrev pub is_other : Option ℕ → ℕ → Bool
is_other None from = false
is_other (Some place) from = not (place == from)

-- the one address of 90h or ECh may begin at any place
abbrev pub wants_identity : TailFacts → Bool
wants_identity t = opened (λ c n. reads_identity c && n == 0) t.opening

abbrev pub begins_wrong : TailFacts → (from count : ℕ) → Bool
begins_wrong t from count = is_other (place_wanted t.opening t.phase) from && not (wants_identity t)

-- an address is begun and not yet whole
abbrev pub is_amid : TailFacts → Bool
is_amid t = opened (λ c n. nat_lt 0 n && nat_lt n (address_cycles c)) t.opening || wants_second_column t.phase

-- the index, over base 0, of a page that an array reads
abbrev pub index_of : Parts → PageAddress → ℕ
index_of g p = p.block / planes g * g.pages + p.page

abbrev pub is_misplaced : Parts → Run → Word → Bool
is_misplaced g r (Address from count) = begins_wrong (tail_now r) from count
is_misplaced g r (Column n) = is_amid (tail_now r)
is_misplaced g r (RowAdd n) = is_amid (tail_now r)
is_misplaced g r (Row n) = is_amid (tail_now r)
is_misplaced g r (Plane n) = is_amid (tail_now r)
is_misplaced g r _ = false

abbrev pub lets_go_amid : Run → Word → Bool
lets_go_amid r Wait = is_open (tail_now r)
lets_go_amid r Yield = is_open (tail_now r)
lets_go_amid r _ = false

abbrev pub next_page_outside : Parts → ℕ → Run → Command → Bool
next_page_outside g rows r ReadCacheSequential = nat_le rows (index_of g (array_page g r.past the_lun) + 1)
next_page_outside g rows r _ = false

abbrev pub is_outside : Parts → ℕ → Run → Word → Bool
is_outside g rows r (CommandWord byte) = next_page_outside g rows r (command byte)
is_outside g rows r (Address from count) = nat_lt 2 (from + count) && (nat_le rows (index_now 0 r.done) || nat_le (planes g) (plane_now r.done))
is_outside g rows r _ = false

abbrev pub ends_unready : Parts → Run → Word → Bool
ends_unready g r (End code) = is_busy g r.past the_lun || is_open (tail_now r) || has_some (queue g r.past the_lun) || is_caching g r.past the_lun
ends_unready g r _ = false

abbrev pub costs_too_much : Parts → ℕ → Run → Word → Bool
costs_too_much g budget r word = nat_lt 0 (cost g word) && not (nat_le (cost_now g r.done + cost g word) budget)

abbrev pub is_not_for_programs : Parts → Word → Bool
is_not_for_programs g (CommandWord byte) =
    asks_status (command byte) || not (is_of_base (command byte)) || breaks_command_unknown g (CommandCycle (command byte)) || (wants_one_lun (command byte) && nat_lt 1 g.luns)
is_not_for_programs g _ = false

-- left out of V7: the bytes of the word may not be there. 90h and ECh take one byte of the column, so a row byte before all others is no
-- address of theirs that could be judged
abbrev pub lacks_bytes : Parts → Microprogram → Run → Word → Bool
lacks_bytes g text r (Address from count) =
    is_misplaced g r (Address from count) || is_outside g text.rows r (Address from count) || (wants_identity (tail_now r) && nat_lt 1 from)
lacks_bytes g text r (Put len) = not (fits text.buffer (place_now r.done) (Put len))
lacks_bytes g text r _ = false

-- ---- causes

-- the cycles of the word stop at one that a rule of this sort forbids
pub record WordStops (s : Channel) (j : Job) (r : Run) (word : Word) (sort : Forbidden → Bool) : Type 0 where
  pub moved : List Move
  pub is_moved : moves s.geometry j r.done word ≡ Some moved
  pub stops : Stops s moved r.past sort

-- what stands where a word is refused for a reason; a straight text isn't refused for another
abbrev pub Cause : Channel → Job → Run → Word → Reason → Type 0
Cause s j r word CycleForbidden = lacks_bytes s.geometry j.text r word ≡ false → WordStops s j r word is_of_cycle_forbidden
Cause s j r word AddressUnaligned = is_misplaced s.geometry r word ≡ true
Cause s j r word HandoverInSequence = lets_go_amid r word ≡ true
Cause s j r word BufferPassed = fits j.text.buffer (place_now r.done) word ≡ false
Cause s j r word RowOrPlaneOutside = is_outside s.geometry j.text.rows r word ≡ true
Cause s j r word ColumnTooLarge = WordStops s j r word is_of_column_too_large
Cause s j r word EndsTooSoon = ends_unready s.geometry r word ≡ true
Cause s j r word OverBudget = costs_too_much s.geometry j.text.budget r word ≡ true
Cause s j r word CommandNotAllowed = is_not_for_programs s.geometry word ≡ true
Cause s j r word _ = ⊥

-- no word of a list is an `end`
abbrev pub no_end : List Word → Bool
no_end [] = true
no_end (word ∷ words) = not (is_end word) && no_end words

-- the refusal names a word that no `end` precedes, the lazy run of the words before it is there and legal, and the cause stands
pub record HasCause (s : Channel) (text : Microprogram) (fault : Fault) : Type 0 where
  pub word : Word
  pub there : slice_get text.words fault.word ≡ Some word
  pub before : no_end (take fault.word text.words) ≡ true
  pub run : Run
  pub is_run : lazy s text fault.word ≡ Some run
  pub legal : is_legal s.geometry s.targets run.past ≡ true
  pub cause : Cause s (lone_job s.geometry text) run word fault.reason

abbrev pub AllInRange : Format → ℕ → List Word → Type 0
AllInRange format words [] = Unit {0}
AllInRange format words (word ∷ rest) = IsInRange format words word × AllInRange format words rest

-- a straight text in range, for a geometry with one LUN in the base profile, whose commands are those that programs use
pub record IsStraight (g : Parts) (text : Microprogram) (format : Format) : Type 0 where
  pub limits : InLimits g
  pub one : g.luns ≡ 1
  pub base : is_wide g.optional ≡ false
  pub rows : text.rows ≤ indices g
  pub leads_on : all_lead_on text.words ≡ true
  pub in_range : AllInRange format (length text.words) text.words
  pub few : length text.words ≤ 32768
  pub buffer : text.buffer ≤ 16777215
  pub budget : text.budget < 4294967296

-- the law: no refusal without a cause. What is against the text as a whole, as its shape, is no reason of a word
abbrev pub RefusalsHaveCauses : Type 0
RefusalsHaveCauses =
    (g : Parts) (parameters : List ℕ) (text : Microprogram) (format : Format) (fault : Fault) → length parameters ≡ 768 → IsStraight g text format → fault_of g text ≡ Some fault
    → is_of_shape fault.reason ≡ false → HasCause (lone_channel g parameters) text fault
