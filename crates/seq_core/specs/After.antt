-- What an event leaves and is answered, and what a list of events comes to.
use Rattle.std.specs.Prelude.{ℕ, ◌==◌, Bool, true, false, ◌&&◌, not, if◌then◌else◌, List, [], ◌∷◌, Option, Some, None, is_some}
use Rattle.nand_geometry.specs.declared.parts.Parts.{Parts}
use Rattle.onfi_cycle.specs.declared.lun.Lun.{Lun}
use Rattle.onfi_cycle.specs.declared.item.Item.{Item}
use Rattle.onfi_cycle.specs.declared.item.Item.TheVariants.{Rdy, Ard}
use Rattle.onfi_cycle.specs.Permitted.{is_permitted}
use Rattle.onfi_cycle.specs.Channel.{Channel, is_there, same_lun}
use Rattle.micro_program.specs.Program.{Job, buffer_now}
use Rattle.micro_program.specs.Moves.{and_then}
use Rattle.micro_program.specs.Step.{Stride, keeps_bus, next_step}
use Rattle.seq_core.specs.declared.load_fault.LoadFault.{LoadFault}
use Rattle.seq_core.specs.declared.load_fault.LoadFault.TheVariants.{SlotTaken, OtherLun, OtherGeometry}
use Rattle.seq_core.specs.declared.stepped.Stepped.{Stepped}
use Rattle.seq_core.specs.declared.stepped.Stepped.TheVariants.{Empty, Held, Ended}
use Rattle.seq_core.specs.declared.unload_fault.UnloadFault.TheVariants.{NoJob, StillRunning}
use Rattle.seq_core.specs.World.{Slot, World, slot_of, with_slot, fresh_slot}
use Rattle.seq_core.specs.Event.{Event, Load, Step, Ready, ArrayReady, Unload}
use Rattle.seq_core.specs.Reply.{Reply, ToLoad, ToStep, ToReady, ToArrayReady, ToUnload, Loaded, NotLoaded, Unloaded, NotUnloaded, answer_of}

-- the world that an event leaves, and its answer
pub record After : Type 0 where
  pub world : World
  pub reply : Reply

-- both are true, or both false
abbrev pub same_bool : Bool → Bool → Bool
same_bool true b = b
same_bool false b = not b

-- two geometries have the same numbers
abbrev pub same_parts : Parts → Parts → Bool
same_parts g h =
    g.page_bytes == h.page_bytes && (g.spare_bytes == h.spare_bytes && (g.pages == h.pages && (g.blocks == h.blocks && (g.luns == h.luns && (g.plane_bits == h.plane_bits && (same_bool g.enhanced h.enhanced && (same_bool g.multi_plane h.multi_plane && (same_bool g.cache h.cache && g.optional.0 == h.optional.0))))))))

-- the first fault of a load: the slot has a job, the LUN isn't there or isn't the job's, or the job is of another geometry
abbrev pub load_fault : Channel → World → Lun → Job → Option LoadFault
load_fault s w l j =
    if is_some (slot_of s w l) then Some SlotTaken
    else (if not (is_there s l && same_lun l j.lun) then Some OtherLun
    else (if not (same_parts s.geometry j.geometry) then Some OtherGeometry
    else None))

-- a job without a fault is in its slot, one with a fault is handed back
abbrev pub after_load : Channel → World → Lun → Job → Option LoadFault → After
after_load s w l j (Some fault) = record { world = w; reply = ToLoad (NotLoaded fault j) }
after_load s w l j None = record { world = record w { slots = with_slot s w.slots l (Some (fresh_slot j)) }; reply = ToLoad Loaded }

-- another LUN than this one has the bus
abbrev pub is_held : Option Lun → Lun → Bool
is_held None l = false
is_held (Some m) l = not (same_lun m l)

-- a step that does nothing
abbrev pub stands : World → Stepped → Option After
stands w answer = Some (record { world = w; reply = ToStep answer })

-- a step that makes this stride: the slot goes on, and has the bus if the stride keeps it
abbrev pub after_stride : Channel → World → Lun → Job → Stride → After
after_stride s w l j r =
    record {
      world = record {
        past = r.past;
        slots = with_slot s w.slots l (Some (record { job = j; ahead = r.ahead; done = r.done; code = r.code }));
        holder = if keeps_bus r.outcome then Some l else None;
      };
      reply = ToStep (answer_of r.outcome);
    }

-- a step of a slot with a job: one that has ended stands, and so does one while another LUN has the bus
abbrev pub after_slot_step : Channel → World → Lun → Slot → Option ℕ → Option After
after_slot_step s w l x (Some code) = stands w Ended
after_slot_step s w l x None =
    if is_held w.holder l then stands w Held
    else and_then (next_step s x.job w.past x.ahead x.done) (λ r. Some (after_stride s w l x.job r))

-- a step of a slot
abbrev pub after_step : Channel → World → Lun → Option Slot → Option After
after_step s w l None = stands w Empty
after_step s w l (Some x) = after_slot_step s w l x x.code

-- a ready or an array ready is in the trace where it is permitted
abbrev pub after_item : World → Item → (Bool → Reply) → Bool → After
after_item w i reply true = record { world = record w { past = i ∷ w.past }; reply = reply true }
after_item w i reply false = record { world = w; reply = reply false }

-- an unload of a slot with a job: one that has ended is given, with its buffer as it is now
abbrev pub after_slot_unload : Channel → World → Lun → Slot → Option ℕ → After
after_slot_unload s w l x None = record { world = w; reply = ToUnload (NotUnloaded StillRunning) }
after_slot_unload s w l x (Some code) =
    record {
      world = record w { slots = with_slot s w.slots l None };
      reply = ToUnload (Unloaded (record x.job { buffer = buffer_now x.job.buffer x.done }) code);
    }

-- an unload of a slot
abbrev pub after_unload : Channel → World → Lun → Option Slot → After
after_unload s w l None = record { world = w; reply = ToUnload (NotUnloaded NoJob) }
after_unload s w l (Some x) = after_slot_unload s w l x x.code

-- what an event leaves, defined but where a program has no next word, or a cycle of its step has no byte
abbrev pub after : Channel → World → Event → Option After
after s w (Load l j) = Some (after_load s w l j (load_fault s w l j))
after s w (Step l) = after_step s w l (slot_of s w l)
after s w (Ready l fail) =
    Some (after_item w (Rdy l.ce l.lun fail) ToReady (is_permitted s.geometry s.targets w.past (Rdy l.ce l.lun fail)))
after s w (ArrayReady l fail) =
    Some (after_item w (Ard l.ce l.lun fail) ToArrayReady (is_permitted s.geometry s.targets w.past (Ard l.ce l.lun fail)))
after s w (Unload l) = Some (after_unload s w l (slot_of s w l))

-- the world that a list of events leaves, and its answers
pub record Ran : Type 0 where
  pub world : World
  pub replies : List Reply

-- what a list of events comes to, one after another
abbrev pub run : Channel → List Event → World → Option Ran
run s [] w = Some (record { world = w; replies = [] })
run s (e ∷ events) w =
    and_then (after s w e) (λ a. and_then (run s events a.world) (λ r. Some (record { world = r.world; replies = a.reply ∷ r.replies })))
