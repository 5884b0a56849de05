use Rattle.nand_geometry.proofs.RowLemmas.{kept_row_fits}
use Rattle.nand_geometry.proofs.geometry.Geometry.row_number.Goals as goal

pub three_fields-requires-clause-fits : goal.three_fields-requires-clause-fits
three_fields-requires-clause-fits c =
    kept_row_fits _ _ c.args.row _ _ c.self.invariant c.self.view_is (record { lun = c.requires.lun; block = c.requires.block; page = c.requires.page })
