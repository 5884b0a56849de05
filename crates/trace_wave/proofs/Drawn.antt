-- Frames of a dump.
use Rattle.std.proofs.Common.{◌≡◌, ℕ, ◌+◌, ◌*◌, List, [], ◌∷◌, ◌++◌, ◌==◌, Bool, true, cond, refl, sym, ap, ◌∙◌, append_assoc}
use Rattle.std.proofs.lemmas.Bool.{false_from_ne_true, eqb-true}
use Rattle.nand_geometry.specs.declared.parts.Parts.{Parts}
use Rattle.onfi_cycle.specs.declared.item.Cycle.{Cycle}
use Rattle.onfi_cycle.specs.declared.item.Item.{Item}
use Rattle.onfi_cycle.specs.declared.item.Item.TheVariants.{Cyc, Rdy, Ard}
use Rattle.bus_lines.specs.declared.lines.Lines.{Lines}
use Rattle.bus_lines.specs.Lines.{set_up, struck, released}
use Rattle.trace_wave.specs.Levels.{bus_levels, model_levels, levels}
use Rattle.trace_wave.specs.Changes.{changes, time_line, at_time, frame}
use Rattle.trace_wave.specs.declared.dump.Dump.{Dump}
use Rattle.trace_wave.specs.Keeping.{AreHigh, IsAt}
use Rattle.trace_wave.specs.Wave.{Drawing, levels_at, strobe_code, is_ready, item_frames, past_next, rule_next}
use Rattle.trace_wave.proofs.Lists.{behind, bus_changes, all_changes, changes_same}
use Rattle.trace_wave.proofs.Strobes.{risen}

-- a frame in which the bus alone changes
pub bus_frame : (g : Parts) (targets : ℕ) (d : Drawing) (time : ℕ) (l k : Lines)
    → frame time (levels_at g targets d l) (levels_at g targets d k) ≡ at_time time (changes 33 (bus_levels targets l) (bus_levels targets k))
bus_frame g targets d time l k = ap (at_time time) (bus_changes targets l k (model_levels g targets d.past d.rule))

-- after a broken rule the past stays
pub past_stays : (past : List Item) (rule : ℕ) (i : Item) → (rule ≡ 0 → ⊥) → past_next past rule i ≡ past
past_stays past rule i some = ap (λ (b : Bool). cond b (i ∷ past) past) (false_from_ne_true (rule == 0) (λ h. some (eqb-true rule 0 h)))

quiet_frames : (g : Parts) (targets items rule rule' : ℕ) (past : List Item) (l : Lines) (i : Item) → rule' ≡ rule_next g targets past rule i
    → frame (10 * items + 6) (levels g targets past rule l) (levels g targets (past_next past (rule_next g targets past rule i) i) (rule_next g targets past rule i) l)
    ≡ at_time (10 * items + 6) (changes (45 + targets) (model_levels g targets past rule) (model_levels g targets (past_next past rule' i) rule'))
quiet_frames g targets items rule rule' past l i next =
    let told = λ (r : ℕ). changes (45 + targets) (model_levels g targets past rule) (model_levels g targets (past_next past r i) r) in
    let later = rule_next g targets past rule i in
    ap (at_time (10 * items + 6))
    (all_changes targets l l (model_levels g targets past rule) (model_levels g targets (past_next past later i) later)
    ∙ ap (λ xs. xs ++ told later) (changes_same 33 (bus_levels targets l))
    ∙ ap (λ (r : ℕ). told r) (sym next))

-- a dump's own numbers are those of the drawing that it is at
pub drawing_is : (g : Parts) (targets : ℕ) (d : Drawing) (dump : Dump) → IsAt g targets d dump
    → record { items = dump.items; past = d.past; rule = dump.rule; lines = dump.lines } ≡ d
drawing_is g targets d dump at = rw (at.items, at.rule, at.lines) refl

-- a cycle is drawn: it is set up, its strobe falls, and then all that changes where that rises
pub cycle_drawn : (g : Parts) (targets items rule rule' : ℕ) (past : List Item) (l up : Lines) (c : Cycle) (old a b e new : List ℕ)
    → AreHigh l → up ≡ set_up l c → rule' ≡ rule_next g targets past rule (Cyc c)
    → a ≡ old ++ at_time (10 * items) (changes 33 (bus_levels targets l) (bus_levels targets (set_up l c)))
    → b ≡ a ++ at_time (10 * items + 2) (changes 33 (bus_levels targets up) (bus_levels targets (struck up c)))
    → e ≡ b ++ (time_line (10 * items + 6) ++ 49 ∷ strobe_code targets c ∷ 10 ∷ [])
    → new ≡ e ++ changes (45 + targets) (model_levels g targets past rule) (model_levels g targets (past_next past rule' (Cyc c)) rule')
    → new ≡ old ++ item_frames g targets (record { items = items; past = past; rule = rule; lines = l }) (Cyc c)
cycle_drawn g targets items rule rule' past l up c old a b e new high ups next first second third model =
    let d : Drawing = record { items = items; past = past; rule = rule; lines = l } in
    let after : Lines = struck (set_up l c) c in
    let rise = 49 ∷ strobe_code targets c ∷ 10 ∷ [] in
    let told = λ (r : ℕ). changes (45 + targets) (model_levels g targets past rule) (model_levels g targets (past_next past r (Cyc c)) r) in
    let one = frame (10 * items) (levels_at g targets d l) (levels_at g targets d (set_up l c)) in
    let two = λ (k : Lines). at_time (10 * items + 2) (changes 33 (bus_levels targets k) (bus_levels targets (struck k c))) in
    let time = time_line (10 * items + 6) in
    behind old b new (one ++ frame (10 * items + 2) (levels_at g targets d (set_up l c)) (levels_at g targets d after)) (time ++ (rise ++ told rule'))
    (behind old a b one (frame (10 * items + 2) (levels_at g targets d (set_up l c)) (levels_at g targets d after))
    (first ∙ ap (λ xs. old ++ xs) (sym (bus_frame g targets d (10 * items) l (set_up l c))))
    (second ∙ ap (λ (k : Lines). a ++ two k) ups ∙ ap (λ xs. a ++ xs) (sym (bus_frame g targets d (10 * items + 2) (set_up l c) after))))
    (behind b e new (time ++ rise) (told rule') third model ∙ ap (λ xs. b ++ xs) (append_assoc time rise (told rule')))
    ∙ ap (λ xs. old ++ ((one ++ frame (10 * items + 2) (levels_at g targets d (set_up l c)) (levels_at g targets d after)) ++ at_time (10 * items + 6) xs))
    (ap (λ (r : ℕ). rise ++ told r) next
    ∙ sym (all_changes targets after (released after) (model_levels g targets past rule)
    (model_levels g targets (past_next past (rule_next g targets past rule (Cyc c)) (Cyc c)) (rule_next g targets past rule (Cyc c)))
    ∙ ap (λ xs. xs ++ told (rule_next g targets past rule (Cyc c))) (risen targets (set_up l c) c high)))

-- the frame of a ready
pub ready_frames : (g : Parts) (targets items rule rule' : ℕ) (past : List Item) (l : Lines) (i : Item) → is_ready i ≡ true → rule' ≡ rule_next g targets past rule i
    → item_frames g targets (record { items = items; past = past; rule = rule; lines = l }) i
    ≡ at_time (10 * items + 6) (changes (45 + targets) (model_levels g targets past rule) (model_levels g targets (past_next past rule' i) rule'))
ready_frames g targets items rule rule' past l (Cyc c) h next = cc
ready_frames g targets items rule rule' past l (Rdy ce lun fail) h next = quiet_frames g targets items rule rule' past l (Rdy ce lun fail) next
ready_frames g targets items rule rule' past l (Ard ce lun fail) h next = quiet_frames g targets items rule rule' past l (Ard ce lun fail) next
