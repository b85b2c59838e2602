use Rattle.std.proofs.Common.{◌≡◌, ◌≤◌, ◌*◌, ◌^◌, All, length, map, take}
use Rattle.ras_cli.specs.Asked.{HasTexts}
use Rattle.ras_cli.specs.Named.{limited}
use Rattle.ras_cli.specs.Reads.{AllRead}
use Rattle.ras_cli.proofs.files.read_files.Given as goal

abbrev pub invariant-loop-file : goal.invariant-loop-file
invariant-loop-file g l = record {
  held : g.S.Shelf.held l.shelf ≡ g.S.Shelf.held l.initial.shelf;
  faults : g.S.Shelf.faults l.initial.shelf ≤ g.S.Shelf.faults l.shelf;
  broke : g.S.Shelf.broke l.initial.shelf ≤ g.S.Shelf.broke l.shelf;
  taken : g.S.Shelf.taken l.initial.shelf ≤ g.S.Shelf.taken l.shelf;
  over : g.S.Shelf.over l.shelf ≡ g.S.Shelf.over l.initial.shelf;
  each : length l.files.items ≡ l.file-index;
  small : All (λ f. length f.items ≤ 64 * 2 ^ 20) l.files.items;
  texts : HasTexts (g.S.Shelf.held l.initial.shelf) (map limited (take l.file-index l.named)) (map (λ f. f.items) l.files.items);
  order : AllRead g.S.Shelf.reads l.initial.shelf (map limited (take l.file-index l.named)) l.files.items l.shelf;
  unread : l.file-index ≡ 0 → l.shelf ≡ l.initial.shelf;
}
