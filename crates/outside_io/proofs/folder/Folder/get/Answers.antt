use Rattle.std.proofs.Common.{ℕ, Vec, Global, Some, option_map, ap, ◌∙◌}
use Rattle.std.specs.FinMap.{get}
use Rattle.outside_io.proofs.FolderLemmas.{get-files_of}
use Rattle.outside_io.proofs.folder.Folder.get.Goals as goal

pub returns-in-Some : goal.returns-in-Some
returns-in-Some c =
    ap Some c.as_slice.ensures.value
    ∙ ap (option_map (λ (v : Vec ℕ Global). v.items)) c.in-Some.ensures.value
    ∙ get-files_of c.args.name.now c.self.inside.files.entries
    ∙ ap (λ files. get files c.args.name.now) c.self.view_is

pub returns-in-None : goal.returns-in-None
returns-in-None c =
    ap (option_map (λ (v : Vec ℕ Global). v.items)) c.in-None.ensures.value
    ∙ get-files_of c.args.name.now c.self.inside.files.entries
    ∙ ap (λ files. get files c.args.name.now) c.self.view_is
