-- The sequences of the profiles, written out, each in the order of time; and what a tail is to them.
use Rattle.std.specs.Prelude.{◌≡◌, ◌≢◌, ◌↔◌, ℕ, true, false, List, [], ◌∷◌, ◌++◌, reverse}
use Rattle.onfi_cycle.specs.declared.command.Command.{Command}
use Rattle.onfi_cycle.specs.declared.command.Command.TheVariants.{Read, ReadConfirm, ChangeReadColumn, ChangeReadColumnEnhanced, ChangeReadColumnConfirm, BlockErase, BlockEraseConfirm, BlockErasePlane, ReadStatus, ReadStatusEnhanced, PageProgram, ChangeWriteColumn, ProgramConfirm, ProgramPlane, ReadId, ReadParameterPage, Reset, ReadCacheSequential, ReadCacheEnd, ReadUniqueId, GetFeatures, SetFeatures, ResetLun, SynchronousReset, ReadPlane, CopybackRead, ProgramCache}
use Rattle.onfi_cycle.specs.declared.target_cycle.TargetCycle.{TargetCycle}
use Rattle.onfi_cycle.specs.declared.target_cycle.TargetCycle.TheVariants.{CommandCycle, AddressCycle, InputCycle}
use Rattle.onfi_cycle.specs.Sequence.{begins_sequence, facts_of, wants, is_open}

-- the data of a program: inputs, and any number of changes of the column with inputs behind them
pub data IsProgramData : List TargetCycle → Type 0 where
  nothing : IsProgramData []
  input : (byte : ℕ) (more : List TargetCycle) → IsProgramData more → IsProgramData (InputCycle byte ∷ more)
  column : (c1 c2 : ℕ) (more : List TargetCycle) → IsProgramData more → IsProgramData (CommandCycle ChangeWriteColumn ∷ (AddressCycle c1 ∷ (AddressCycle c2 ∷ more)))

-- the commands that begin a program
pub data IsProgramOpener : Command → Type 0 where
  write : IsProgramOpener PageProgram
  copy : IsProgramOpener ChangeWriteColumn

-- the commands that close it
pub data IsProgramCloser : Command → Type 0 where
  whole : IsProgramCloser ProgramConfirm
  plane : IsProgramCloser ProgramPlane
  cache : IsProgramCloser ProgramCache

-- the table: an opener, its addresses, the inputs of a program, and its closer
pub data IsSequence : List TargetCycle → Type 0 where
  read : (c1 c2 r1 r2 r3 : ℕ) → IsSequence (CommandCycle Read ∷ (AddressCycle c1 ∷ (AddressCycle c2 ∷ (AddressCycle r1 ∷ (AddressCycle r2 ∷ (AddressCycle r3 ∷ (CommandCycle ReadConfirm ∷ [])))))))
  read_plane : (c1 c2 r1 r2 r3 : ℕ) → IsSequence (CommandCycle Read ∷ (AddressCycle c1 ∷ (AddressCycle c2 ∷ (AddressCycle r1 ∷ (AddressCycle r2 ∷ (AddressCycle r3 ∷ (CommandCycle ReadPlane ∷ [])))))))
  copyback_read : (c1 c2 r1 r2 r3 : ℕ) → IsSequence (CommandCycle Read ∷ (AddressCycle c1 ∷ (AddressCycle c2 ∷ (AddressCycle r1 ∷ (AddressCycle r2 ∷ (AddressCycle r3 ∷ (CommandCycle CopybackRead ∷ [])))))))
  read_cache_random : (c1 c2 r1 r2 r3 : ℕ) → IsSequence (CommandCycle Read ∷ (AddressCycle c1 ∷ (AddressCycle c2 ∷ (AddressCycle r1 ∷ (AddressCycle r2 ∷ (AddressCycle r3 ∷ (CommandCycle ReadCacheSequential ∷ [])))))))
  change_read_column : (c1 c2 : ℕ) → IsSequence (CommandCycle ChangeReadColumn ∷ (AddressCycle c1 ∷ (AddressCycle c2 ∷ (CommandCycle ChangeReadColumnConfirm ∷ []))))
  change_read_column_enhanced : (c1 c2 r1 r2 r3 : ℕ) → IsSequence (CommandCycle ChangeReadColumnEnhanced ∷ (AddressCycle c1 ∷ (AddressCycle c2 ∷ (AddressCycle r1 ∷ (AddressCycle r2 ∷ (AddressCycle r3 ∷ (CommandCycle ChangeReadColumnConfirm ∷ [])))))))
  erase : (r1 r2 r3 : ℕ) → IsSequence (CommandCycle BlockErase ∷ (AddressCycle r1 ∷ (AddressCycle r2 ∷ (AddressCycle r3 ∷ (CommandCycle BlockEraseConfirm ∷ [])))))
  erase_plane : (r1 r2 r3 : ℕ) → IsSequence (CommandCycle BlockErase ∷ (AddressCycle r1 ∷ (AddressCycle r2 ∷ (AddressCycle r3 ∷ (CommandCycle BlockErasePlane ∷ [])))))
  read_status : IsSequence (CommandCycle ReadStatus ∷ [])
  read_status_enhanced : (r1 r2 r3 : ℕ) → IsSequence (CommandCycle ReadStatusEnhanced ∷ (AddressCycle r1 ∷ (AddressCycle r2 ∷ (AddressCycle r3 ∷ []))))
  program : (opener : Command) (c1 c2 r1 r2 r3 : ℕ) (bytes : List TargetCycle) (closer : Command) → IsProgramOpener opener → IsProgramData bytes → IsProgramCloser closer → IsSequence (CommandCycle opener ∷ (AddressCycle c1 ∷ (AddressCycle c2 ∷ (AddressCycle r1 ∷ (AddressCycle r2 ∷ (AddressCycle r3 ∷ (bytes ++ (CommandCycle closer ∷ []))))))))
  read_id : IsSequence (CommandCycle ReadId ∷ (AddressCycle 0x20 ∷ []))
  read_parameter_page : IsSequence (CommandCycle ReadParameterPage ∷ (AddressCycle 0x00 ∷ []))
  reset : IsSequence (CommandCycle Reset ∷ [])
  read_cache_sequential : IsSequence (CommandCycle ReadCacheSequential ∷ [])
  read_cache_end : IsSequence (CommandCycle ReadCacheEnd ∷ [])
  read_manufacturer : IsSequence (CommandCycle ReadId ∷ (AddressCycle 0x00 ∷ []))
  read_jedec : IsSequence (CommandCycle ReadId ∷ (AddressCycle 0x40 ∷ []))
  read_unique_id : IsSequence (CommandCycle ReadUniqueId ∷ (AddressCycle 0x00 ∷ []))
  get_features : (feature : ℕ) → IsSequence (CommandCycle GetFeatures ∷ (AddressCycle feature ∷ []))
  set_features : (feature p1 p2 p3 p4 : ℕ) → IsSequence (CommandCycle SetFeatures ∷ (AddressCycle feature ∷ (InputCycle p1 ∷ (InputCycle p2 ∷ (InputCycle p3 ∷ (InputCycle p4 ∷ []))))))
  reset_lun : (r1 r2 r3 : ℕ) → IsSequence (CommandCycle ResetLun ∷ (AddressCycle r1 ∷ (AddressCycle r2 ∷ (AddressCycle r3 ∷ []))))
  synchronous_reset : IsSequence (CommandCycle SynchronousReset ∷ [])

-- cycles in the order of time are a beginning of a sequence
abbrev pub IsBeginning : List TargetCycle → Type 0
IsBeginning cycles = (more : List TargetCycle) × IsSequence (cycles ++ more)

-- a proper one: at least one cycle is still to come
abbrev pub IsProperBeginning : List TargetCycle → Type 0
IsProperBeginning cycles = (next : TargetCycle) × IsBeginning (cycles ++ (next ∷ []))

-- what the rules compute of a tail, by the table: a cycle continues a tail exactly where both together begin some sequence
-- (of an opener, as 31 and 85 are, it is said where some tail is there), and a sequence is open exactly where it is begun, not ended, and more
-- than a lone 00
pub record TailsFollowTheTable : Type 0 where
  pub goes_on : (t : List TargetCycle) (c : TargetCycle) → begins_sequence c ≡ false → (wants (facts_of t) c ≡ true) ↔ IsBeginning (reverse (c ∷ t))
  pub opener_inside : (b : TargetCycle) (t : List TargetCycle) (c : TargetCycle) → begins_sequence c ≡ true → (wants (facts_of (b ∷ t)) c ≡ true) ↔ IsBeginning (reverse (c ∷ (b ∷ t)))
  pub opens : (t : List TargetCycle) → t ≢ [] → t ≢ CommandCycle Read ∷ [] → (is_open (facts_of t) ≡ true) ↔ IsProperBeginning (reverse t)
  pub lone_read : is_open (facts_of (CommandCycle Read ∷ [])) ≡ false
  pub no_tail : is_open (facts_of []) ≡ false
