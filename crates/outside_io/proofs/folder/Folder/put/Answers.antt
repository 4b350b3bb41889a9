use Rattle.std.proofs.Common.{ap, ◌∙◌}
use Rattle.std.specs.FinMap.{insert}
use Rattle.outside_io.specs.Folder.{files_of}
use Rattle.outside_io.proofs.FolderLemmas.{files_of-insert}
use Rattle.outside_io.proofs.folder.Folder.put.Goals as goal

pub returns-clause-ok : goal.returns-clause-ok
returns-clause-ok c =
    ap files_of c.in_ok-insert.ensures.entries
    ∙ files_of-insert c.in_ok-name.name c.in_ok-bytes.bytes c.self.inside.files.entries
    ∙ (λ i. insert (c.self.view_is i) (c.in_ok-name.ensures.items i) (c.in_ok-bytes.ensures.items i))
