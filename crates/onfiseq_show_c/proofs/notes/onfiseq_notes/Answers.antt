use Rattle.std.proofs.Common.{ℕ, List, Ok, Err, refl, ap, ◌∙◌}
use Rattle.std.specs.String.{string_bytes}
use Rattle.placed_bytes.specs.Placed.{placed, placed_in}
use Rattle.onfiseq_show_c.proofs.notes.onfiseq_notes.Goals as goal

pub returns-in-Ok : goal.returns-in-Ok
returns-in-Ok c =
    record {
      made = Ok (string_bytes c.in-Ok.lines);
      is = c.in-Ok.ensures.ok;
      told = c.place.ensures.told ∙ ap (λ (bytes : List ℕ). placed bytes c.args.notes.now) c.as_bytes.ensures.value;
      left = c.place.ensures.written ∙ ap (λ (bytes : List ℕ). placed_in bytes c.args.notes.now) c.as_bytes.ensures.value;
    }

pub returns-in-Err : goal.returns-in-Err
returns-in-Err c = record { made = Err c.in-Err.failure; is = c.in-Err.ensures.err; told = c.told.ensures; left = refl }
