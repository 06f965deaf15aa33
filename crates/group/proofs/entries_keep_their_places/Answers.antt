use Rattle.group.specs.Views.{number_of}
use Rattle.group.proofs.Placing.{number_low, cell_written, cell_kept, shaped}
use Rattle.group.proofs.entries_keep_their_places.Goals as goal

pub returns : goal.returns
returns c =
    λ r two shape g i low high e. record {
      here = cell_written r two shape g i low high e;
      others = cell_kept r two shape g i low high e;
      shape = shaped r two shape (number_of g) i (number_low g) low high e;
    }
