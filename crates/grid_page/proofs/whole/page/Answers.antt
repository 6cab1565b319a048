use Rattle.grid_farm.specs.Known.{known}
use Rattle.grid_page.proofs.PageLemmas.{page_is}
use Rattle.grid_page.proofs.whole.page.Goals as goal

pub returns : goal.returns
returns c =
    page_is (known c.args.farm.now) c.in_ok-sheet.sheet.bytes.items c.put_node_table.new.sheet.bytes.items c.put_wait_table.new.sheet.bytes.items c.put_picture.new.sheet.bytes.items
    c.text.new.self.bytes.items c.in_ok-sheet.ensures c.in_ok-put_node_table.ensures c.in_ok-put_wait_table.ensures c.in_ok-put_picture.ensures c.in_ok-text.ensures
