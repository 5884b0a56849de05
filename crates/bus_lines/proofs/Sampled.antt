-- What is drawn is sampled as what it was.
use Rattle.std.proofs.Common.{◌≡◌, ℕ, List, [], ◌∷◌, refl, ap}
use Rattle.onfi_cycle.specs.declared.item.Item.{Item}
use Rattle.onfi_cycle.specs.declared.item.Item.TheVariants.{Cyc, Rdy, Ard}
use Rattle.onfi_cycle.specs.declared.item.Cycle.{Cycle}
use Rattle.onfi_cycle.specs.declared.item.Kind.{Kind}
use Rattle.onfi_cycle.specs.declared.item.Kind.TheVariants.{Cmd, Adr, Din, Dout}
use Rattle.bus_lines.specs.declared.lines.Lines.{Lines}
use Rattle.bus_lines.specs.Lines.{idle, set_up, struck, released}
use Rattle.bus_lines.specs.Sampling.{sampling, all_drawn, cycles_of, SamplingGivesBack}

sampled_cycle : (k : Lines) (ce byte : ℕ) (kind : Kind) (rest : List Lines) (cs : List Cycle)
    → sampling (released (struck (set_up (released k) (record { ce = ce; kind = kind; byte = byte })) (record { ce = ce; kind = kind; byte = byte }))) rest ≡ cs
    → sampling (released k) (set_up (released k) (record { ce = ce; kind = kind; byte = byte }) ∷ struck (set_up (released k) (record { ce = ce; kind = kind; byte = byte })) (record { ce = ce; kind = kind; byte = byte })
    ∷ released (struck (set_up (released k) (record { ce = ce; kind = kind; byte = byte })) (record { ce = ce; kind = kind; byte = byte })) ∷ rest) ≡ record { ce = ce; kind = kind; byte = byte } ∷ cs
sampled_cycle k ce byte Cmd rest cs e = ap (λ (xs : List Cycle). record { ce = ce; kind = Cmd; byte = byte } ∷ xs) e
sampled_cycle k ce byte Adr rest cs e = ap (λ (xs : List Cycle). record { ce = ce; kind = Adr; byte = byte } ∷ xs) e
sampled_cycle k ce byte Din rest cs e = ap (λ (xs : List Cycle). record { ce = ce; kind = Din; byte = byte } ∷ xs) e
sampled_cycle k ce byte Dout rest cs e = ap (λ (xs : List Cycle). record { ce = ce; kind = Dout; byte = byte } ∷ xs) e

sampled_again : (k : Lines) (items : List Item) → sampling (released k) (all_drawn (released k) items) ≡ cycles_of items
sampled_again k [] = refl
sampled_again k (Cyc c ∷ items) = sampled_cycle k c.ce c.byte c.kind (all_drawn (released (struck (set_up (released k) c) c)) items) (cycles_of items) (sampled_again (struck (set_up (released k) c) c) items)
sampled_again k (Rdy ce lun fail ∷ items) = sampled_again k items
sampled_again k (Ard ce lun fail ∷ items) = sampled_again k items

pub sampling_gives_back : SamplingGivesBack
sampling_gives_back items = sampled_again idle items
