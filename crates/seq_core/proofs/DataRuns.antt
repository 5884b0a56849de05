-- A run of data that is own: the bus permits it, and it is played.
use Rattle.std.proofs.Common.{◌≡◌, ◌≢◌, ℕ, zero, suc, List, [], ◌∷◌, Option, None, refl, sym, ap, ◌∙◌, subst, length, replicate}
use Rattle.onfi_cycle.specs.declared.forbidden.Forbidden.{Forbidden as Rule}
use Rattle.onfi_cycle.specs.declared.item.Item.{Item}
use Rattle.onfi_cycle.specs.declared.item.Kind.TheVariants.{Din, Dout}
use Rattle.onfi_cycle.specs.declared.lun.Lun.{Lun}
use Rattle.onfi_cycle.specs.Channel.{Channel, cycle}
use Rattle.onfi_cycle.specs.Runs.{first_rule}
use Rattle.onfi_cycle.specs.Outputs.{with_outputs, broken_outputs}
use Rattle.onfi_cycle.specs.Inputs.{with_inputs, broken_inputs}
use Rattle.micro_program.specs.Moves.{Take, gives, and_then}
use Rattle.micro_program.specs.Played.{Played, played, with_byte}
use Rattle.micro_program.specs.Safe.{MovesAreOwn}
use Rattle.target_bus.specs.declared.refusal.BusRefusal.{BusRefusal}
use Rattle.target_bus.specs.declared.refusal.BusRefusal.TheVariants.{OutOfMemory}
use Rattle.target_bus.specs.Bus.{Traced, channel_of, Refuses, AreShown, AreTaken, ArePut}
use Rattle.seq_core.specs.Calls.{Plays}
use Rattle.seq_core.specs.Playing.{HasPlayed}
use Rattle.seq_core.proofs.Played.{never_refused}

-- 1. the bus permits its outputs

pub record IsPermittedRun (s : Channel) (ce len : ℕ) (past : List Item) : Type 0 where
  pub bytes : List ℕ
  pub count : length bytes ≡ len
  pub permitted : broken_outputs s.geometry s.targets ce bytes past ≡ None

-- whatever the bytes are, so 0 serves
pub own_run : (s : Channel) (l : Lun) (len : ℕ) (past : List Item) → MovesAreOwn s l (replicate len Take) past → IsPermittedRun s l.ce len past
own_run s l zero past own = record { bytes = []; count = refl; permitted = refl }
own_run s l (suc len) past own =
    let later = cycle l.ce Dout 0 ∷ past in
    let rest = own_run s l len later (own 0).1 in
    record {
      bytes = 0 ∷ rest.bytes;
      count = ap suc rest.count;
      permitted = ap (λ (o : Option Rule). first_rule o (broken_outputs s.geometry s.targets l.ce rest.bytes later)) (own 0).0.permitted ∙ rest.permitted;
    }

pub run_never_refused : (s : Channel) (l : Lun) (len : ℕ) (past : List Item) (e : BusRefusal) → MovesAreOwn s l (replicate len Take) past → ((bytes : List ℕ) → length bytes ≡ len → Refuses e (broken_outputs s.geometry s.targets l.ce bytes past)) → e ≢ OutOfMemory → ⊥
run_never_refused s l len past e own refused some =
    let run = own_run s l len past own in
    never_refused e _ (refused run.bytes run.count) run.permitted some

-- 2. they are played

shown_plays : (s : Channel) (ce : ℕ) (bytes : List ℕ) (past : List Item) → AreShown s ce bytes past → Plays s ce (replicate (length bytes) Take) past (with_outputs ce bytes past) bytes
shown_plays s ce [] past h = refl
shown_plays s ce (byte ∷ bytes) past h =
    ap (λ (o : Option ℕ). and_then o (λ b. and_then (played s ce (replicate (length bytes) Take) (cycle ce Dout b ∷ past)) (with_byte b))) h.1 ∙
    ap (λ (o : Option Played). and_then o (with_byte byte)) (shown_plays s ce bytes (cycle ce Dout byte ∷ past) h.2)

pub taken_plays : (a b : Traced) (ce len : ℕ) (bytes : List ℕ) → length bytes ≡ len → AreTaken a b ce bytes → HasPlayed a b ce (replicate len Take) bytes len
taken_plays a b ce len bytes size t =
    subst (λ (n : ℕ). HasPlayed a b ce (replicate n Take) bytes n) size
    (record {
      same = t.channel;
      plays = subst (λ (past : List Item). Plays (channel_of a) ce (replicate (length bytes) Take) a.past past bytes) (sym t.past) (shown_plays (channel_of a) ce bytes a.past t.shown);
      room = t.room;
    })

-- 3. inputs

pub own_inputs : (s : Channel) (l : Lun) (bytes : List ℕ) (past : List Item) → MovesAreOwn s l (gives Din bytes) past → broken_inputs s.geometry s.targets l.ce bytes past ≡ None
own_inputs s l [] past own = refl
own_inputs s l (byte ∷ bytes) past own =
    let later = cycle l.ce Din byte ∷ past in
    ap (λ (o : Option Rule). first_rule o (broken_inputs s.geometry s.targets l.ce bytes later)) own.0.permitted ∙ own_inputs s l bytes later own.1

pub inputs_never_refused : (s : Channel) (l : Lun) (bytes : List ℕ) (past : List Item) (e : BusRefusal) → MovesAreOwn s l (gives Din bytes) past → Refuses e (broken_inputs s.geometry s.targets l.ce bytes past) → e ≢ OutOfMemory → ⊥
inputs_never_refused s l bytes past e own refused some = never_refused e _ refused (own_inputs s l bytes past own) some

inputs_play : (s : Channel) (ce : ℕ) (bytes : List ℕ) (past : List Item) → Plays s ce (gives Din bytes) past (with_inputs ce bytes past) []
inputs_play s ce [] past = refl
inputs_play s ce (byte ∷ bytes) past = inputs_play s ce bytes (cycle ce Din byte ∷ past)

pub put_plays : (a b : Traced) (ce : ℕ) (bytes : List ℕ) → ArePut a b ce bytes → HasPlayed a b ce (gives Din bytes) [] (length bytes)
put_plays a b ce bytes p =
    record {
      same = p.channel;
      plays = subst (λ (past : List Item). Plays (channel_of a) ce (gives Din bytes) a.past past []) (sym p.past) (inputs_play (channel_of a) ce bytes a.past);
      room = p.room;
    }
