-- What is stored of events: which events are stored so, and what the stored ones tell.
use Rattle.std.specs.Prelude.{◌≡◌, ℕ, Bool, true, if◌then◌else◌, List, [], ◌∷◌, ◌++◌, Option, Some, None}
use Rattle.std.specs.List.{Contains, filter_map}
use Rattle.onfi_cycle.specs.declared.lun.Lun.{Lun}
use Rattle.onfi_cycle.specs.Channel.{same_lun}
use Rattle.micro_program.specs.Program.{Job}
use Rattle.seq_core.specs.Event.{Event, Load, Step, Ready, ArrayReady, Unload}
use Rattle.seq_core.specs.Reply.{Reply, ToLoad, ToStep, ToReady, ToArrayReady, ToUnload, Unloaded, Loaded as IsLoaded}
use Rattle.seq_core.specs.declared.stepped.Stepped.{Stepped}
use Rattle.job_queue.specs.declared.rule.QueuedJob.{QueuedJob}
use Rattle.channel_work.specs.declared.stored.Name.{Name}
use Rattle.channel_work.specs.declared.stored.Stored.{Stored}
use Rattle.channel_work.specs.declared.stored.Stored.TheVariants.{Load as Loaded, Step as WasStepped, Ready as BecameReady, ArrayReady as ArrayBecameReady, Unload as WasUnloaded}

abbrev pub name_of : QueuedJob Job → Name
name_of x = record { host = x.host; number = x.number }

-- an event that is stored so: a load is the one of the taken job of its name
abbrev pub IsStoredAs : List (QueuedJob Job) → Stored → Event → Type 0
IsStoredAs taken (Loaded l n) e = (x : QueuedJob Job) × Contains taken x × (name_of x ≡ n) × (e ≡ Load l x.job)
IsStoredAs taken (WasStepped l turn) e = e ≡ Step l
IsStoredAs taken (BecameReady l fail) e = e ≡ Ready l fail
IsStoredAs taken (ArrayBecameReady l fail) e = e ≡ ArrayReady l fail
IsStoredAs taken (WasUnloaded l) e = e ≡ Unload l

-- the events that are stored so, in order
abbrev pub AreStoredAs : List (QueuedJob Job) → List Stored → List Event → Type 0
AreStoredAs taken [] [] = Unit {0}
AreStoredAs taken [] (e ∷ es) = ⊥
AreStoredAs taken (x ∷ xs) [] = ⊥
AreStoredAs taken (x ∷ xs) (e ∷ es) = IsStoredAs taken x e × AreStoredAs taken xs es

-- a stored event was answered so: it came
abbrev pub IsAnswered : Stored → Reply → Type 0
IsAnswered (Loaded l n) r = r ≡ ToLoad IsLoaded
IsAnswered (WasStepped l turn) r = (answer : Stepped) × (r ≡ ToStep answer)
IsAnswered (BecameReady l fail) r = r ≡ ToReady true
IsAnswered (ArrayBecameReady l fail) r = r ≡ ToArrayReady true
IsAnswered (WasUnloaded l) r = (job : Job) × (code : ℕ) × (r ≡ ToUnload (Unloaded job code))

-- the stored events came, and were answered so, in order
abbrev pub AreAnswered : List Stored → List Reply → Type 0
AreAnswered [] [] = Unit {0}
AreAnswered [] (r ∷ rs) = ⊥
AreAnswered (x ∷ xs) [] = ⊥
AreAnswered (x ∷ xs) (r ∷ rs) = IsAnswered x r × AreAnswered xs rs

-- the name of a load
abbrev pub load_name : Stored → Option Name
load_name (Loaded l n) = Some n
load_name _ = None

-- the names of the loads, in order
abbrev pub loads_of : List Stored → List Name
loads_of xs = filter_map load_name xs

-- the job that an unload gave, with its code
abbrev pub given_by : Reply → Option (Job × ℕ)
given_by (ToUnload (Unloaded job code)) = Some (job, code)
given_by _ = None

-- what the unloads gave, in order
abbrev pub given_in : List Reply → List (Job × ℕ)
given_in replies = filter_map given_by replies

-- the name last started on a LUN; the newest event comes first
abbrev pub last_started : Lun → List Stored → Option Name
last_started l [] = None
last_started l (Loaded m n ∷ past) = if same_lun l m then Some n else last_started l past
last_started l (_ ∷ past) = last_started l past

-- at each unload the name last started on its LUN; the newest comes first
abbrev pub unloaded_names : List Stored → List (Option Name)
unloaded_names [] = []
unloaded_names (WasUnloaded l ∷ past) = last_started l past ∷ unloaded_names past
unloaded_names (_ ∷ past) = unloaded_names past

-- the events, with one more if it came
abbrev pub stored_if : Bool → List Stored → Stored → List Stored
stored_if came events x = if came then events ++ (x ∷ []) else events
