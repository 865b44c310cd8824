use Rattle.clip_dump.proofs.Whole.{header_plane}
use Rattle.clip_dump.proofs.dump_text.Goals as goal

pub put_file-requires : goal.put_file-requires
put_file-requires c = (header_plane c.args.file.now c.in-Ok.ensures, c.requires)
