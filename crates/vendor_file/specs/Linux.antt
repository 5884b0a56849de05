-- What a Linux host sends besides a profile.
use Rattle.std.specs.Prelude.{ℕ, List, codes}
use Rattle.nand_geometry.specs.declared.optional.Profile.{Profile}
use Rattle.nand_geometry.specs.declared.optional.Profile.TheVariants.{Base, Onfi}

unfoldable pub linux : Profile → List ℕ
linux Base = codes "90 A=00 O*\n90 A=40 O*\nec A=40 O*\ned A O*\nee A O*\nef A I4 R\n"
linux Onfi = codes "ec A=40 O*\n"
