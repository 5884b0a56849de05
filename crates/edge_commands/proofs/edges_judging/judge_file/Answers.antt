use Rattle.std.proofs.Common.{◌≡◌, ℕ, List, Ok, sym, subst, refl, None}
use Rattle.std.specs.Option.{option_map}
use Rattle.bus_signals.specs.declared.mapping.Mapping.{Mapping}
use Rattle.bus_capture.specs.declared.reading.Setup.{Setup}
use Rattle.bus_capture.specs.Inferring.{captured}
use Rattle.recording.specs.Captures.{AreSaid}
use Rattle.edge_commands.specs.Edges.{AreJudgedIn, IsEdgeSetup}
use Rattle.edge_commands.proofs.edges_judging.judge_file.Goals as goal

pub returns-in-Ok-clause-ok : goal.returns-in-Ok-clause-ok
returns-in-Ok-clause-ok g c =
    let request = c.args.request in
    let setup : Setup = record { form = request.form; geometry = c.args.geometry; targets = c.count.result; mappings = c.as_slice.result; glitch = 0; late = None } in
    let is : IsEdgeSetup request c.args.geometry setup = record {
      form = refl;
      geometry = refl;
      targets = c.count.ensures.value;
      mappings = subst (λ (l : List Mapping). AreSaid (option_map (λ line. line.now) request.mappings) l) (sym c.as_slice.ensures.value) c.in_ok-mappings.ensures;
      glitch = refl;
      late = refl;
    } in
    let judged : AreJudgedIn (g.F.Files.store c.args.files.now) request c.args.geometry = record {
      setup = setup;
      is_setup = is;
      bytes = c.in_ok-capture.capture.items;
      is_there = c.in_ok-capture.ensures.holds;
      items = c.in_ok-see_capture.field-0.stamped.items;
      shows = subst (λ (bytes : List ℕ). captured setup bytes ≡ Ok c.in_ok-see_capture.field-0.stamped.items) c.as_slice-2.ensures.value c.in_ok-see_capture.ensures.ok;
    } in
    judged
