use Rattle.std.proofs.Common.{◌≡◌, ◌≤◌, ◌-◌, [], false, length, take, drop}
use Rattle.csv_text.specs.Fields.{fields_from}
use Rattle.csv_text.proofs.fields.piece_len.Given as goal

abbrev pub invariant-bytes : goal.invariant-bytes
invariant-bytes l = record {
  within : l.count ≤ length l.text;
  fields : fields_from l.separator false [] l.text ≡ fields_from l.separator l.quoted (take l.count l.text) (drop l.count l.text);
}

abbrev pub decreases-bytes : goal.decreases-bytes
decreases-bytes l = length l.text - l.count
