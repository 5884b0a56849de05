-- The geometry that the caller's numbers stand for.
use Rattle.nand_geometry.specs.declared.parts.Parts.{Parts}
use Rattle.target_record.specs.Record.{is_set}
use Rattle.target_record.specs.declared.geometry.OnfiseqGeometry.{OnfiseqGeometry}

abbrev pub parts_of : OnfiseqGeometry → Parts
parts_of g = record { page_bytes = g.page_bytes; spare_bytes = g.spare_bytes; pages = g.pages; blocks = g.blocks; luns = g.luns; plane_bits = g.plane_bits; enhanced = is_set g.enhanced; multi_plane = is_set g.multi_plane; cache = is_set g.cache; optional = record { 0 = g.optional } }

-- all numbers 0
abbrev pub no_geometry : OnfiseqGeometry
no_geometry = record { page_bytes = 0; spare_bytes = 0; pages = 0; blocks = 0; luns = 0; plane_bits = 0; enhanced = 0; multi_plane = 0; cache = 0; optional = 0 }
