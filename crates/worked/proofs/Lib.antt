mod Computed
