-- What the functions of the layout require.
use Rattle.std.specs.Prelude.{◌≤◌}
use Rattle.record_form.specs.declared.form.Version.{Version}

-- a table whose widths are those of a tolerance and of an edition, or less
pub record FormOk (v : Version) : Type 0 where
  pub second : v.second ≤ 8
  pub edition : v.edition ≤ 4
