-- Why words that are no command stop a run.
use Rattle.metis_words.specs.declared.words.WordFault.{WordFault}
use Rattle.metis_words.specs.declared.words.WordFault.TheVariants.{At, NoMemory}
use Rattle.metis_inputs.specs.declared.stop.InputFault.TheVariants.{Word}
use Rattle.metis_inputs.specs.declared.stop.Stop.{Stop}
use Rattle.metis_inputs.specs.declared.stop.Stop.TheVariants.{Faulty}
use Rattle.metis_inputs.specs.declared.stop.Stop.TheVariants as stop

abbrev pub word_stop : WordFault → Stop
word_stop (At place) = Faulty (Word place)
word_stop NoMemory = stop.NoMemory
