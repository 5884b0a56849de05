use Rattle.std.proofs.Common.{Bool, false, ◌||◌, ap}
use Rattle.std.proofs.lemmas.List.{get_or-replicate}
use Rattle.micro_asm.specs.Assembly.{is_target}
use Rattle.micro_asm.proofs.labels.targets.Goals as goal

pub loop-word-init : goal.loop-word-init
loop-word-init c = λ at low. ap (λ (named : Bool). named || is_target c.args.words.now at) (get_or-replicate 1024 at false false low)
