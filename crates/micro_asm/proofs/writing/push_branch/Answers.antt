use Rattle.std.proofs.Common.{◌≡◌, ◌^◌, ◌-◌, ◌<◌, [], false, Some, List, ℕ, ap, ◌∙◌, arith}
use Rattle.std.specs.Option.{option_map}
use Rattle.std.specs.String.{string_bytes}
use Rattle.std.specs.Fmt.{padded_integral, format_spec, styled_digits_output}
use Rattle.std.proofs.lemmas.Result.{on_ok_weaker}
use Rattle.std.proofs.lemmas.Fmt.{hex_byte}
use Rattle.micro_asm.specs.Assembly.{hex_byte as digits_of}
use Rattle.micro_asm.proofs.Written.{written_branch}
use Rattle.micro_asm.proofs.writing.push_branch.Goals as goal

pub returns : goal.returns
returns g c =
    let small : c.args.mask < 256 = omega arith in
    let spec = format_spec 32 0 4 2 (2 ^ 64 - 1) in
    let styled : styled_digits_output c.in_radix.result c.laid_out.result ≡ Some (digits_of c.args.mask) =
    ap (λ s. styled_digits_output c.in_radix.result s) c.laid_out.ensures
    ∙ ap (option_map (padded_integral spec false [])) c.in_radix.ensures
    ∙ ap (λ (bs : List ℕ). Some bs) (hex_byte false c.args.mask small) in
    on_ok_weaker c.writeln.result (written_branch (string_bytes c.args.text.now) (string_bytes c.writeln.new.self) (styled_digits_output c.in_radix.result c.laid_out.result) c.args.mask c.args.target styled) c.writeln.ensures.bytes
