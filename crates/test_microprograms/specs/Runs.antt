-- Worked runs, computed by the definitions. Traces are written in the order of time.
use Rattle.std.specs.Prelude.{◌≡◌, ℕ, true, false, List, [], ◌∷◌, ◌++◌, reverse, replicate, Option, Some, None}
use Rattle.nand_geometry.specs.declared.parts.Parts.{Parts}
use Rattle.nand_geometry.specs.Optional.{no_optional}
use Rattle.onfi_cycle.specs.declared.item.Kind.TheVariants.{Cmd, Adr, Dout}
use Rattle.onfi_cycle.specs.declared.lun.Lun.{Lun}
use Rattle.onfi_cycle.specs.declared.item.Item.{Item}
use Rattle.onfi_cycle.specs.declared.item.Failures.{Failures}
use Rattle.onfi_cycle.specs.declared.item.Item.TheVariants.{Cyc, Rdy, Ard}
use Rattle.onfi_cycle.specs.Channel.{Channel}
use Rattle.micro_word.specs.declared.word.Word.TheVariants.{End, Command, Address, Get, Seek, Wait, Yield, ReadStatus}
use Rattle.micro_word.specs.Text.{Microprogram}
use Rattle.micro_program.specs.Program.{Job, Done, Nothing, Got, buffer_now}
use Rattle.micro_walk.specs.Erase.{erase_words}
use Rattle.seq_core.specs.declared.load_fault.LoadFault.TheVariants.{SlotTaken, OtherLun, OtherGeometry}
use Rattle.seq_core.specs.declared.stepped.Stepped.TheVariants.{Empty, Held, Ended, HandedOver, NotReady, Went}
use Rattle.seq_core.specs.declared.unload_fault.UnloadFault.TheVariants.{NoJob, StillRunning}
use Rattle.seq_core.specs.Alone.{no_failures}
use Rattle.seq_core.specs.World.{fresh}
use Rattle.seq_core.specs.Event.{Event, Load, Step, Ready, ArrayReady, Unload}
use Rattle.seq_core.specs.Reply.{Reply, ToLoad, ToStep, ToReady, ToArrayReady, ToUnload, Loaded, NotLoaded, Unloaded, NotUnloaded}
use Rattle.seq_core.specs.After.{Ran, run}
use Rattle.seq_core.specs.Buffer.{is_filled}
use Rattle.seq_core.specs.Made.{Running, running_on}

-- one LUN; two LUNs with Read Status Enhanced; one LUN with read cache
abbrev pub one_lun : Parts
one_lun = record { page_bytes = 512; spare_bytes = 16; pages = 4; blocks = 8; luns = 1; plane_bits = 0; enhanced = false; multi_plane = false; cache = false; optional = no_optional }

abbrev pub two_luns : Parts
two_luns = record { page_bytes = 512; spare_bytes = 16; pages = 4; blocks = 8; luns = 2; plane_bits = 1; enhanced = true; multi_plane = true; cache = false; optional = no_optional }

abbrev pub with_cache : Parts
with_cache = record { page_bytes = 512; spare_bytes = 16; pages = 4; blocks = 8; luns = 1; plane_bits = 0; enhanced = false; multi_plane = false; cache = true; optional = no_optional }

-- one target, whose pages are erased
abbrev pub on : Parts → Channel
on g = record { geometry = g; targets = 1; parameters = replicate 768 0; opening = λ l p. replicate 528 0xff }

abbrev pub lun : ℕ → Lun
lun n = record { ce = 0; lun = n }

abbrev pub c : ℕ → Item
c byte = Cyc (record { ce = 0; kind = Cmd; byte = byte })

abbrev pub a : ℕ → Item
a byte = Cyc (record { ce = 0; kind = Adr; byte = byte })

abbrev pub o : ℕ → Item
o byte = Cyc (record { ce = 0; kind = Dout; byte = byte })

abbrev pub job : Parts → ℕ → ℕ → Microprogram → List ℕ → Job
job g l base text buffer = record { lun = lun l; base = base; text = text; geometry = g; buffer = buffer }

-- work that failed
abbrev pub fails : Failures
fails = record { last = true; before = false }

abbrev pub trace_of : Option Ran → List Item
trace_of None = []
trace_of (Some r) = reverse r.world.past

abbrev pub replies_of : Option Ran → List Reply
replies_of None = []
replies_of (Some r) = r.replies

abbrev pub ran : Parts → List Event → Option Ran
ran g events = run (on g) events (fresh (on g))

-- so many steps of a LUN
abbrev pub steps : ℕ → ℕ → List Event
steps count l = replicate count (Step (lun l))

-- the erase of one block
abbrev pub erase : Microprogram
erase = record { rows = 1; buffer = 0; budget = 5; words = erase_words }

abbrev pub erase_events : List Event
erase_events = Load (lun 0) (job one_lun 0 4 erase []) ∷ (steps 4 0 ++ (Ready (lun 0) no_failures ∷ (steps 3 0 ++ (Unload (lun 0) ∷ []))))

-- what the erase has put into the trace by its end: its own cycles, both polls of its `wait` among them, and no ready
abbrev pub erase_to_end : List Event
erase_to_end = Load (lun 0) (job one_lun 0 4 erase []) ∷ (steps 4 0 ++ (Ready (lun 0) no_failures ∷ steps 3 0))

abbrev pub made_on : Parts → ℕ → List Event → Option Running
made_on g l events = running_on (on g) (lun l) events (fresh (on g)) None

-- erases on two LUNs of one target, stepped in turn; both become ready after fourteen steps
abbrev pub in_turn : List ℕ → List Event → List Event
in_turn [] rest = rest
in_turn (l ∷ luns) rest = Step (lun l) ∷ in_turn luns rest

abbrev pub two_turns : List Event
two_turns = in_turn (0 ∷ (1 ∷ (0 ∷ (1 ∷ (0 ∷ (1 ∷ (0 ∷ (1 ∷ (0 ∷ (1 ∷ (0 ∷ (1 ∷ (0 ∷ (1 ∷ [])))))))))))))) (Ready (lun 0) no_failures ∷ (Ready (lun 1) no_failures ∷ in_turn (0 ∷ (1 ∷ (0 ∷ (1 ∷ (0 ∷ (1 ∷ [])))))) []))

abbrev pub two_events : List Event
two_events = Load (lun 0) (job two_luns 0 0 erase []) ∷ (Load (lun 1) (job two_luns 1 0 erase []) ∷ two_turns)

abbrev pub two_replies : List Reply
two_replies = ToLoad Loaded ∷ (ToLoad Loaded ∷ (ToStep Went ∷ (ToStep Held ∷ (ToStep Went ∷ (ToStep Held ∷ (ToStep Went ∷ (ToStep Held ∷ (ToStep NotReady ∷ (ToStep Went ∷ (ToStep Held ∷ (ToStep Went ∷ (ToStep Held ∷ (ToStep Went ∷ (ToStep Held ∷ (ToStep NotReady ∷ (ToReady true ∷ (ToReady true ∷ (ToStep Went ∷ (ToStep Held ∷ (ToStep Ended ∷ (ToStep Went ∷ (ToStep Ended ∷ (ToStep Ended ∷ [])))))))))))))))))))))))

-- a read that lets the bus go after its first command
abbrev pub reads : Microprogram
reads = record { rows = 1; buffer = 4; budget = 12; words = Command 0x00 ∷ (Yield ∷ (Address 0 5 ∷ (Command 0x30 ∷ (Wait ∷ (Command 0x00 ∷ (Get 4 ∷ (End 0 ∷ []))))))) }

abbrev pub read_events : List Event
read_events = Load (lun 0) (job one_lun 0 0 reads (replicate 4 0)) ∷ (steps 5 0 ++ (Ready (lun 0) no_failures ∷ (steps 4 0 ++ (Unload (lun 0) ∷ []))))

-- a cache read: the array becomes ready behind the LUN
abbrev pub reads_cache : Microprogram
reads_cache = record { rows = 2; buffer = 0; budget = 12; words = Command 0x00 ∷ (Address 0 5 ∷ (Command 0x30 ∷ (Wait ∷ (Command 0x31 ∷ (Wait ∷ (ReadStatus ∷ (End 0 ∷ []))))))) }

abbrev pub cache_events : List Event
cache_events =
    Load (lun 0) (job with_cache 0 0 reads_cache []) ∷ (steps 3 0 ++ (Ready (lun 0) no_failures ∷ (steps 2 0 ++ (ArrayReady (lun 0) false ∷ (steps 1 0 ++ (Ready (lun 0) no_failures ∷ (steps 1 0 ++ (ArrayReady (lun 0) false ∷ (ArrayReady (lun 0) false ∷ steps 1 0)))))))))

-- refused before any load: a job on another LUN than its own, on a LUN that isn't there, and of another geometry; steps, readies
-- and unloads of a LUN without a job, and of one that isn't there
abbrev pub at_two : ℕ → Job
at_two l = job two_luns l 0 erase []

abbrev pub other_geometry : Job
other_geometry = job one_lun 0 0 erase []

abbrev pub refused_events : List Event
refused_events =
    Load (lun 1) (at_two 0) ∷ (Load (lun 2) (at_two 2) ∷ (Load (lun 0) other_geometry ∷ (Step (lun 0) ∷ (Step (lun 2) ∷ (Ready (lun 0) fails ∷ (Ready (lun 2) no_failures ∷ (ArrayReady (lun 0) false ∷ (Unload (lun 0) ∷ (Unload (lun 2) ∷ [])))))))))

-- refused with a job in the slot: a second load, first of all, and an unload before the end
abbrev pub occupied_events : List Event
occupied_events = Load (lun 0) (at_two 0) ∷ (Load (lun 0) other_geometry ∷ (Unload (lun 0) ∷ []))

-- a `get` of four bytes from place 2 on fills those, and no other
abbrev pub got_four : List Done
got_four = record { word = Get 4; answer = Got (1 ∷ (2 ∷ (3 ∷ (4 ∷ [])))) } ∷ (record { word = Seek 2; answer = Nothing } ∷ [])

-- what these runs come to
pub record WorkedRuns : Type 0 where
  pub erase_trace : trace_of (ran one_lun erase_events) ≡ c 0x60 ∷ (a 4 ∷ (a 0 ∷ (a 0 ∷ (c 0xd0 ∷ (c 0x70 ∷ (o 0x80 ∷ (Rdy 0 0 no_failures ∷ (c 0x70 ∷ (o 0xe0 ∷ [])))))))))
  pub erase_replies : replies_of (ran one_lun erase_events) ≡ ToLoad Loaded ∷ (ToStep Went ∷ (ToStep Went ∷ (ToStep Went ∷ (ToStep NotReady ∷ (ToReady true ∷ (ToStep Went ∷ (ToStep Ended ∷ (ToStep Ended ∷ (ToUnload (Unloaded (job one_lun 0 4 erase []) 0) ∷ [])))))))))
  pub erase_made : made_on one_lun 0 erase_to_end ≡ Some (record { job = job one_lun 0 4 erase []; made = reverse (c 0x60 ∷ (a 4 ∷ (a 0 ∷ (a 0 ∷ (c 0xd0 ∷ (c 0x70 ∷ (o 0x80 ∷ (c 0x70 ∷ (o 0xe0 ∷ []))))))))) })
  pub erase_taken_away : made_on one_lun 0 erase_events ≡ None
  pub two_luns_trace : trace_of (ran two_luns two_events) ≡ c 0x60 ∷ (a 0 ∷ (a 0 ∷ (a 0 ∷ (c 0xd0 ∷ (c 0x78 ∷ (a 0 ∷ (a 0 ∷ (a 0 ∷ (o 0x80 ∷ (c 0x60 ∷ (a 0x20 ∷ (a 0 ∷ (a 0 ∷ (c 0xd0 ∷ (c 0x78 ∷ (a 0x20 ∷ (a 0 ∷ (a 0 ∷ (o 0x80 ∷ (Rdy 0 0 no_failures ∷ (Rdy 0 1 no_failures ∷ (c 0x78 ∷ (a 0 ∷ (a 0 ∷ (a 0 ∷ (o 0xe0 ∷ (c 0x78 ∷ (a 0x20 ∷ (a 0 ∷ (a 0 ∷ (o 0xe0 ∷ [])))))))))))))))))))))))))))))))
  -- each has made its own cycles, and none of the other's
  pub second_made : made_on two_luns 1 two_events ≡ Some (record { job = job two_luns 1 0 erase []; made = reverse (c 0x60 ∷ (a 0x20 ∷ (a 0 ∷ (a 0 ∷ (c 0xd0 ∷ (c 0x78 ∷ (a 0x20 ∷ (a 0 ∷ (a 0 ∷ (o 0x80 ∷ (c 0x78 ∷ (a 0x20 ∷ (a 0 ∷ (a 0 ∷ (o 0xe0 ∷ []))))))))))))))) })
  pub two_luns_in_turn : replies_of (ran two_luns two_events) ≡ two_replies
  pub hands_over : replies_of (ran one_lun read_events) ≡ ToLoad Loaded ∷ (ToStep Went ∷ (ToStep HandedOver ∷ (ToStep Went ∷ (ToStep Went ∷ (ToStep NotReady ∷ (ToReady true ∷ (ToStep Went ∷ (ToStep Went ∷ (ToStep Went ∷ (ToStep Ended ∷ (ToUnload (Unloaded (job one_lun 0 0 reads (replicate 4 0xff)) 0) ∷ [])))))))))))
  pub array_comes_ready : replies_of (ran with_cache cache_events) ≡ ToLoad Loaded ∷ (ToStep Went ∷ (ToStep Went ∷ (ToStep Went ∷ (ToReady true ∷ (ToStep Went ∷ (ToStep Went ∷ (ToArrayReady false ∷ (ToStep NotReady ∷ (ToReady true ∷ (ToStep Went ∷ (ToArrayReady true ∷ (ToArrayReady false ∷ (ToStep Went ∷ [])))))))))))))
  pub cache_trace : trace_of (ran with_cache cache_events) ≡ c 0 ∷ (a 0 ∷ (a 0 ∷ (a 0 ∷ (a 0 ∷ (a 0 ∷ (c 0x30 ∷ (Rdy 0 0 no_failures ∷ (c 0x70 ∷ (o 0xe0 ∷ (c 0x31 ∷ (c 0x70 ∷ (o 0x80 ∷ (Rdy 0 0 no_failures ∷ (c 0x70 ∷ (o 0xc0 ∷ (Ard 0 0 false ∷ (c 0x70 ∷ (o 0xe0 ∷ []))))))))))))))))))
  pub refused_change_nothing : ran two_luns refused_events ≡ Some (record { world = fresh (on two_luns); replies = ToLoad (NotLoaded OtherLun (at_two 0)) ∷ (ToLoad (NotLoaded OtherLun (at_two 2)) ∷ (ToLoad (NotLoaded OtherGeometry other_geometry) ∷ (ToStep Empty ∷ (ToStep Empty ∷ (ToReady false ∷ (ToReady false ∷ (ToArrayReady false ∷ (ToUnload (NotUnloaded NoJob) ∷ (ToUnload (NotUnloaded NoJob) ∷ []))))))))) })
  pub occupied_refuse : replies_of (ran two_luns occupied_events) ≡ ToLoad Loaded ∷ (ToLoad (NotLoaded SlotTaken other_geometry) ∷ (ToUnload (NotUnloaded StillRunning) ∷ []))
  pub fills_its_own : is_filled got_four 1 ∷ (is_filled got_four 2 ∷ (is_filled got_four 5 ∷ (is_filled got_four 6 ∷ []))) ≡ false ∷ (true ∷ (true ∷ (false ∷ [])))
  pub kept_beside : buffer_now (replicate 8 9) got_four ≡ 9 ∷ (9 ∷ (1 ∷ (2 ∷ (3 ∷ (4 ∷ (9 ∷ (9 ∷ [])))))))
