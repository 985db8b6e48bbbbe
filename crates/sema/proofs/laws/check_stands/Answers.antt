use Rattle.sema.proofs.OnNames.{table_program, names_program}
use Rattle.sema.proofs.OnTypes.{types_program}
use Rattle.sema.proofs.OnSizes.{sizes_program}
use Rattle.sema.proofs.OnWriting.{typed_program}
use Rattle.sema.specs.Tables.{empty}
use Rattle.sema.specs.Names.{table_from}
use Rattle.sema.proofs.Laying.{laid_out, good}
use Rattle.sema.proofs.laws.check_stands.Goals as goal

pub returns : goal.returns
returns c =
    record {
      trees = λ p. record { table = table_program p; names = names_program p; types = types_program p; sizes = sizes_program p; typed = typed_program p };
      layout = λ es. laid_out (table_from empty es) (good es);
    }
