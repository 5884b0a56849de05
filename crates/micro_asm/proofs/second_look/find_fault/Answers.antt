use Rattle.micro_asm.proofs.Looks.{look_tells}
use Rattle.micro_asm.proofs.second_look.find_fault.Goals as goal

pub returns : goal.returns
returns c = rw (c.first_fault.ensures, c.last_word.ensures) (look_tells c.args.text.now)
