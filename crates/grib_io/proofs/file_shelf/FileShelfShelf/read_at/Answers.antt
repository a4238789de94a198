use Rattle.std.proofs.Common.{◌≡◌, true, ap, sym, ◌∙◌, subst}
use Rattle.std.specs.Fs.{with_read}
use Rattle.grib_io.specs.Shelves.{Stays}
use Rattle.grib_io.proofs.Folders.{read_stays}
use Rattle.grib_io.proofs.file_shelf.FileShelfShelf.read_at.Goals as goal

pub returns-in-Err-clause-kept : goal.returns-in-Err-clause-kept
returns-in-Err-clause-kept g c =
    let before : c.self.inside.folder ≡ c.args.self.now.folder = cc in
    let after : c.open.new.self ≡ c.unopened.new.self.folder = cc in
    subst (λ folder. Stays (g.D.Folder.held c.args.self.now.folder) (g.D.Folder.held folder)) after
    (subst (λ folder. Stays (g.D.Folder.held folder) (g.D.Folder.held c.open.new.self)) before
    (read_stays _ _ (c.read.ensures.value ∙ ap (λ how. with_read how true) c.new.ensures) _ _ _ _ c.open.ensures))

pub returns-in-Ok-read_at-clause-kept : goal.returns-in-Ok-read_at-clause-kept
returns-in-Ok-read_at-clause-kept g c =
    let before : c.self.inside.folder ≡ c.args.self.now.folder = cc in
    subst (λ folder. Stays (g.D.Folder.held folder) (g.D.Folder.held c.open.new.self)) before
    (read_stays _ _ (c.read.ensures.value ∙ ap (λ how. with_read how true) c.new.ensures) _ _ _ _ c.open.ensures)

pub returns-clause-kept : goal.returns-clause-kept
returns-clause-kept g c =
    let before : c.self.inside.folder ≡ c.args.self.now.folder = ap (λ shelf. shelf.folder) c.self.view_is in
    let after : c.open.new.self ≡ c.fail_to_read.new.self.folder = sym (ap (λ shelf. shelf.folder) c.fail_to_read.ensures.shelf) in
    subst (λ folder. Stays (g.D.Folder.held c.args.self.now.folder) (g.D.Folder.held folder)) after
    (subst (λ folder. Stays (g.D.Folder.held folder) (g.D.Folder.held c.open.new.self)) before
    (read_stays _ _ (c.read.ensures.value ∙ ap (λ how. with_read how true) c.new.ensures) _ _ _ _ c.open.ensures))
