-- Chip enables one after the other, and a strobe that stays as it is.
use Rattle.std.proofs.Common.{◌≡◌, ◌+◌, ◌-◌, ◌<◌, ◌&&◌, ℕ, suc, Bool, true, false, List, Option, Some, None, Ok, refl, ap, subst, arith}
use Rattle.vcd_text.specs.declared.tokens.Level.{Level}
use Rattle.vcd_text.specs.declared.tokens.Level.TheVariants.{Low, High, Unknown}
use Rattle.vcd_text.specs.Tokens.{◌>>=◌}
use Rattle.bus_signals.specs.declared.role.Role.TheVariants.{Enable}
use Rattle.bus_capture.specs.declared.sampling.Seen.TheVariants.{Nothing}
use Rattle.bus_capture.specs.declared.sampling.Strobe.{Strobe}
use Rattle.bus_capture.specs.declared.sampler.Sampler.{Sampler}
use Rattle.bus_capture.specs.declared.sampler.Strobing.{Strobing}
use Rattle.bus_capture.specs.Sampling.{level, with_enable, enabled_from, line_of, is_lost, is_edge, is_short}
use Rattle.bus_capture.specs.Capturing.{late_of, is_taken, strobe_seen}
use Rattle.bus_capture.proofs.Unchanged.{rises_not}

pub enabled_next : (levels : List Level) (targets n : ℕ) (enabled : Option ℕ) → n < targets
    → enabled_from levels (targets - n) n enabled ≡ (with_enable (level levels (Enable n)) n enabled >>= λ now. enabled_from levels (targets - (n + 1)) (n + 1) now)
enabled_next levels targets n enabled within =
    let more : targets - n ≡ suc (targets - (n + 1)) = omega (arith, within) in
    ap (λ count. enabled_from levels count n enabled) more

no_edge : (l : Level) → is_edge l l ≡ false
no_edge Low = refl
no_edge High = refl
no_edge Unknown = refl

no_loss : (driven : Bool) (l : Level) → is_lost driven l l ≡ false
no_loss driven Low = refl
no_loss driven High = refl
no_loss driven Unknown = refl

edge_not : (was is : Level) → was ≡ is → is_edge was is ≡ false
edge_not was is same = subst (λ l. is_edge was l ≡ false) same (no_edge was)

lost_not : (driven : Bool) (was is : Level) → was ≡ is → is_lost driven was is ≡ false
lost_not driven was is same = subst (λ l. is_lost driven was l ≡ false) same (no_loss driven was)

and_not : (a b : Bool) → b ≡ false → (a && b) ≡ false
and_not true b e = e
and_not false b e = refl

taken_not : (s : Sampler) (strobe : Strobe) (known : Strobing) (late : Option ℕ) → late ≡ None → level s.before.of (line_of strobe) ≡ level s.after.of (line_of strobe) → is_taken late s strobe known ≡ false
taken_not s strobe known None early same = rises_not (level s.before.of (line_of strobe)) (level s.after.of (line_of strobe)) same
taken_not s strobe known (Some late) early same = absurd cc

pub nothing_seen : (s : Sampler) (strobe : Strobe) (known : Strobing) → late_of s strobe ≡ None → level s.before.of (line_of strobe) ≡ level s.after.of (line_of strobe)
    → strobe_seen s strobe known ≡ Ok Nothing
nothing_seen s strobe known early same =
    rw (and_not (is_short s.glitch s.time known.since) (is_edge (level s.before.of (line_of strobe)) (level s.after.of (line_of strobe)))
    (edge_not (level s.before.of (line_of strobe)) (level s.after.of (line_of strobe)) same))
    (rw (taken_not s strobe known (late_of s strobe) early same)
    (rw (lost_not known.driven (level s.before.of (line_of strobe)) (level s.after.of (line_of strobe)) same) refl))
